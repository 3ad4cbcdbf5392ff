-- What the contracts of this crate cite.
pub mod ByteOrderMarks
pub mod Finding
pub mod InTurn
pub mod LogReads
pub mod LogStats
pub mod LogsInTurn
pub mod Unmapping
pub mod WithoutAddress
pub mod Areas
pub mod Rows
