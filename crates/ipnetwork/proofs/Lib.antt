mod CauseExamples
mod Causes
mod EitherNetworks
mod Examples
mod Families
mod FamilyQuestions
mod FirstMarks
mod LawExamples
mod Listings
mod Masked
mod Parsed
mod Passed
pub mod Known
pub mod Words
