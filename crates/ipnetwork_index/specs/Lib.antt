-- What the contracts of this crate cite.
pub mod Columns
pub mod Entries
pub mod Halves
pub mod NumberParts
pub mod Private
pub mod Searches
pub mod Turns
