pub mod Singles
pub mod Midway
