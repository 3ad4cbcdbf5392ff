-- Definitions for the contracts of private functions, and how contracts view private fields.
pub mod Lengths
pub mod Nearest
