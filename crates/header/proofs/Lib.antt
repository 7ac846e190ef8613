pub mod Fields
pub mod Stores
pub mod RoundTrip
