pub mod Agreement
pub mod ByteLayouts
