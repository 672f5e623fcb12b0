pub mod ShortBlock
pub mod ShortUnits
