pub mod AnswerLines
pub mod CommandLines
pub mod JournalLines
pub mod Script
pub mod Setup
pub mod BadSetupLines
pub mod SetupReading
