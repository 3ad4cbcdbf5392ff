pub mod ListParts
pub mod Trees
