mod Marks
pub mod Known
pub mod Words
