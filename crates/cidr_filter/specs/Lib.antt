-- The definitions used in the contracts of this crate.
pub mod Filters
pub mod Matcher
pub mod Logs
pub mod Options
pub mod Private
pub mod Reading
pub mod Runs
