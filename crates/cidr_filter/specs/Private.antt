-- The definitions used in the contracts of private functions.
pub mod Copying
pub mod Progress
pub mod Reading
