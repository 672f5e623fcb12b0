pub mod ByteCharacter
pub mod Short
