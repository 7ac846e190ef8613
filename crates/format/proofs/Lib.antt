pub mod Stores
pub mod ElementLaws
pub mod FileHeaderLaws
