pub mod Ends
pub mod Examples
pub mod Known
pub mod Texts
pub mod Words
