pub mod Traces
pub mod Same
pub mod Decides
