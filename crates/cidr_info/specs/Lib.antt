-- What the contracts of this crate cite.
pub mod Fields
pub mod Numbers
pub mod Options
pub mod Runs
pub mod Texts
pub mod Words
pub mod Zones
