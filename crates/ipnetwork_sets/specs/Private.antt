-- What the private functions promise each other, and how contracts see private fields.
pub mod LeastBlocks
pub mod Remainder
pub mod Places
pub mod Touching
pub mod Search
pub mod Together
pub mod Totals
