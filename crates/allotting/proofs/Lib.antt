pub mod Counting
pub mod Examples
pub mod Known
pub mod Pieces
pub mod Placing
pub mod Runs
pub mod Shifted
pub mod Words
