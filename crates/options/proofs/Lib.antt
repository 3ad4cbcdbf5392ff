-- The lemmas of this crate.
pub mod Examples
pub mod Known
pub mod Runs
pub mod Tables
pub mod WordExamples
pub mod Words
