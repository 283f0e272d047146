pub mod Dropped
pub mod Linked
