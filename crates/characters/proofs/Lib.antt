pub mod ByteCharacters
pub mod Shorts
