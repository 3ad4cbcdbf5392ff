-- The definitions used in the contracts of private functions and for private fields.
pub mod Held
pub mod Joining
pub mod RangeList
pub mod BlockRuns
pub mod Sides
