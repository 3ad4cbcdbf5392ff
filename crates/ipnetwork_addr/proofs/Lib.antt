mod DigitLanes
mod FirstDigits
mod FirstLanes
mod GroupsAtOnce
mod OctetLanes
mod Tables
mod WideDecimals
mod ZeroScan
pub mod AddressBytes
pub mod ByteDigits
pub mod Compressed
pub mod ComputedReading
pub mod ComputedV4
pub mod ComputedV6
pub mod Decimals
pub mod EightSegments
pub mod EitherFamily
pub mod Examples
pub mod FirstMarks
pub mod Gaps
pub mod Groups
pub mod Hexes
pub mod Ipv4Lemmas
pub mod Ipv6Bytes
pub mod Ipv6Names
pub mod Ipv6Printed
pub mod Known
pub mod LawExamples
pub mod MappedGroups
pub mod OctetFronts
pub mod Octets
pub mod PartSteps
pub mod Parts
pub mod PlainOctet
pub mod Printed
pub mod SegmentOctets
pub mod Shifts
pub mod Words
pub mod ZeroRuns
