-- What the contracts of this crate cite.
pub mod Faults
pub mod Given
pub mod Items
pub mod Operands
pub mod Runs
pub mod Table
pub mod Values
