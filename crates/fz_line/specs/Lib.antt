pub mod Views
pub mod Numbers
pub mod Rule
pub mod States
pub mod Takes
pub mod Passes
