-- Definitions for the contracts of private functions.
pub mod Decimals
pub mod DigitLanes
pub mod GroupFront
pub mod LongestRun
pub mod NoAddress
pub mod OctetFront
pub mod OctetLanes
