pub mod Places
pub mod Reading
pub mod Writing
pub mod Lent
pub mod Segments
pub mod Relocating
pub mod Calls
