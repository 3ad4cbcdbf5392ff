-- Definitions for the contracts of private functions.
pub mod Numerals
pub mod Slashes
pub mod Suffixes
