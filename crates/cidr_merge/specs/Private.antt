-- The contracts of private functions, and the meaning of private fields in contracts.
pub mod Entries
pub mod LinesLeft
pub mod SoughtPlaces
pub mod PlacesFound
pub mod Printing
pub mod Reported
pub mod Sweeps
pub mod Totals
pub mod ReadErrors
pub mod Words
