pub mod KnownBytes
pub mod AfterBlocks
