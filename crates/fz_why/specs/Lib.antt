pub mod Paths
pub mod Why
pub mod Trail
pub mod Laws
pub mod Snapshot
pub mod Copies
pub mod Hosts
pub mod Listing
