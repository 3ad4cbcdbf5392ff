-- What the private functions promise one another.
pub mod Bytes
pub mod Documents
pub mod JsonTexts
pub mod Kinds
pub mod Masked
pub mod Readings
pub mod Taking
pub mod Waiting
