pub mod States
pub mod Takes
pub mod Ends
pub mod Workers
pub mod Diary
pub mod Waits
pub mod Turns
pub mod Laws
