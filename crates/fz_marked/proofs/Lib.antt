pub mod Traced
pub mod Condemned
pub mod Carried
