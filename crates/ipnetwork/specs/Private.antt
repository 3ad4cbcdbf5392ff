-- The meaning of private fields in contracts, and definitions for the contracts of private functions.
pub mod Causes
pub mod Members
