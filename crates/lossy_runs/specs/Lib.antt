pub mod ReadOn
pub mod Ucs4Units
