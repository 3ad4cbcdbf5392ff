-- The definitions used in the contracts of private functions.
pub mod Counting
pub mod Listing
pub mod Numbering
pub mod TallyProgress
