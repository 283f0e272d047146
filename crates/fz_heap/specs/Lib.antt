pub mod Contents
pub mod Flat
pub mod Layout
