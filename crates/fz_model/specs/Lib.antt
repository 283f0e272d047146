-- the model
pub mod State
pub mod Places
pub mod Extents
pub mod Memory
pub mod Reachability
pub mod Pass
pub mod Allocation
pub mod Bits
pub mod Condemned
pub mod Causes
pub mod Events
pub mod Calls
pub mod Steps
pub mod Joint
pub mod Refusals
-- the main theorem
pub mod Headline
-- laws that test the model
pub mod CallLaws
pub mod ObjectLaws
pub mod EntryLaws
pub mod PassLaws
pub mod CycleLaws
pub mod OrderLaws
pub mod Seen
-- means only: no public contract cites them
pub mod Codes
pub mod Sound
pub mod Parts
