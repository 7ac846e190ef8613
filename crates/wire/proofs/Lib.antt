pub mod Numbers
pub mod Stores
