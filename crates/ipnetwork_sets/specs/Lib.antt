-- What the contracts of this crate cite.
pub mod ChangeLaws
pub mod CountLaws
pub mod Counts
pub mod Equality
pub mod FreeBlocks
pub mod IpEquality
pub mod IpSets
pub mod Laws
pub mod Private
pub mod RangeLists
pub mod Sets
pub mod Texts
