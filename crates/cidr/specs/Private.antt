-- The definitions used in the contracts of private functions and for private fields.
pub mod Progress
pub mod Replies
pub mod Routes
pub mod Words
