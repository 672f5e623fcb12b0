pub mod KnownBytes
pub mod ShortRuns
pub mod WideRuns
