-- The laws, each stated separately.
pub mod Commands
pub mod Outputs
pub mod Routes
pub mod Runs
pub mod Sets
