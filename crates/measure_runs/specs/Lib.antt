pub mod Validation
pub mod Utf16Units
pub mod Ucs4Bounds
