-- Definitions for the contracts of private functions, and how contracts view private fields.
pub mod Answers
pub mod BlockEnds
pub mod Cuts
pub mod Edges
pub mod Halved
pub mod Listings
pub mod LowHalves
pub mod Padded
pub mod Partitions
pub mod Ranges
pub mod Steps
pub mod Sweeps
