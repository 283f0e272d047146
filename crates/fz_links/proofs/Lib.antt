pub mod Moved
pub mod Dropping
pub mod Halves
pub mod PartlyBack
