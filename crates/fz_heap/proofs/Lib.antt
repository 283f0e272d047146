pub mod Mapped
pub mod Flat
pub mod Extents
pub mod Swept
pub mod Totals
