-- What the private functions promise one another.
pub mod Texts
pub mod Structs
pub mod Sets
pub mod Writing
pub mod Kept
pub mod Tables
pub mod Indexes
pub mod Cuts
pub mod Halves
