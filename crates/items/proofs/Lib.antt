pub mod WholeUnits
pub mod Plain
pub mod Tails
pub mod ByteItems
