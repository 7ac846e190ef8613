pub mod Element
pub mod FileHeader
pub mod FormatState
pub mod Slots
