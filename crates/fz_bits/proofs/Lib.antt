pub mod Words
mod TwoLevels
mod InOrder
mod OneWord
