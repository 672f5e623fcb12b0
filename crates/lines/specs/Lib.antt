pub mod Numerals
pub mod Listing
