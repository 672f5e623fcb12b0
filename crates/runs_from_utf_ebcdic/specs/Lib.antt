pub mod AsciiUnits
