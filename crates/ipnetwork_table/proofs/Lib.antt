mod Examples
mod Keys
mod LawExamples
mod Lengths
mod Longest
mod LongestEntry
mod Nearest
mod Neighbours
pub mod Known
pub mod Listing
pub mod OneAnswer
pub mod Pairs
pub mod Words
