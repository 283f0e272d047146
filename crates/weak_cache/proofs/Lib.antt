pub mod Keeping
pub mod Opening
pub mod Putting
pub mod Refusing
pub mod Getting
pub mod Passing
