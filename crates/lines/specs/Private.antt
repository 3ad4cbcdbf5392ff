-- The definitions used in the contracts of private functions and for private fields.
pub mod Cuts
pub mod Device
