pub mod FaultWords
pub mod FieldLine
pub mod FieldList
