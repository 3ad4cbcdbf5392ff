mod LimitExamples
mod LineExamples
pub mod BytesLemmas
pub mod FirstLines
pub mod Known
pub mod Lines
pub mod Putting
pub mod ReturnedLines
pub mod Words
pub mod Writes
