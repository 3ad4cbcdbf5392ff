-- What is concluded from laws, of addresses of w bits.
pub mod Networks
pub mod Sets
