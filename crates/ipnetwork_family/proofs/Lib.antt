mod LawExamples
mod NoSuffix
mod Shown
pub mod Bits
pub mod Blocks
pub mod BlocksAt
pub mod CanonicalNetworks
pub mod ComputedNetworks
pub mod ComputedV4
pub mod ComputedV6
pub mod CountedBits
pub mod EightSegments
pub mod ErrorExamples
pub mod ErrorTexts
pub mod Examples
pub mod FamilyExamples
pub mod Generic
pub mod JsonExamples
pub mod JsonTexts
pub mod Known
pub mod Masks
pub mod Members
pub mod NetworkTexts
pub mod Numerals
pub mod Parsed
pub mod Slashes
pub mod Suffixes
pub mod Words
