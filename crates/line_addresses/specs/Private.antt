-- What the private functions promise one another.
pub mod LastParts
pub mod LineRuns
