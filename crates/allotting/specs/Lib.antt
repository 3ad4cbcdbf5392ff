pub mod FreeBlocks
pub mod Hosts
pub mod Places
pub mod Private
pub mod Usage
