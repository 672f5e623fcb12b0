pub mod Exactness
pub mod RoundTrip
pub mod Room
pub mod TwelvePairs
pub mod Finder
pub mod LayoutTable
