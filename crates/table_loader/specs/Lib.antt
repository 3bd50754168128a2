pub mod CsvText
pub mod Dates
pub mod Values
pub mod Headings
pub mod Loading
pub mod ComingBack
pub mod FaultWords
