pub mod DecimalLaws
pub mod DigitLaws
pub mod HexLaws
pub mod LineLaws
pub mod PairLaws
mod Samples
