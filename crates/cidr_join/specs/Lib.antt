-- The definitions used in the contracts of this crate.
pub mod Asked
pub mod Comments
pub mod Entries
pub mod Groups
pub mod Joins
pub mod Lists
pub mod Logs
pub mod Longest
pub mod Options
pub mod Pairs
pub mod Private
pub mod Routes
pub mod Runs
pub mod Takes
pub mod Tallies
