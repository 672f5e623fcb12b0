pub mod ItemAt
pub mod Tail
