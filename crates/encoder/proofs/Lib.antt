pub mod Backward
pub mod Chunks
pub mod Lengths
pub mod Targets
pub mod FssUtf
pub mod UtfEbcdic
pub mod Overruns
pub mod Parts
