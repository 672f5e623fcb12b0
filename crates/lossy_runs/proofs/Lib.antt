pub mod ReadingOn
pub mod Units
pub mod Filling
