mod Examples
pub mod Halves
pub mod JoinedParts
pub mod Kept
pub mod Known
pub mod ListParts
pub mod Rows
pub mod Shared
pub mod Trees
pub mod Words
