pub mod Acceptance
pub mod Examples
pub mod Tables
