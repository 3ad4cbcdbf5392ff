-- What the contracts of this crate cite.
pub mod Endings
pub mod Escapes
pub mod LogFaults
pub mod LogLines
pub mod LogReaders
pub mod Logs
pub mod Messages
pub mod Putting
pub mod Runs
pub mod Reported
pub mod Usage
pub mod Words
