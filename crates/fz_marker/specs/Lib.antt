pub mod Marking
pub mod Frontiers
pub mod Cycles
pub mod Standing
pub mod Markers
