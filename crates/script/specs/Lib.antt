pub mod Digit
pub mod Decimal
pub mod Hex
pub mod Line
