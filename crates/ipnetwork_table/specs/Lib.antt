pub mod Computed
pub mod Laws
pub mod Private
pub mod Table
