pub mod Tables
pub mod ByteForms
