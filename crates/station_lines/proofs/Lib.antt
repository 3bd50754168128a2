mod BoundLaws
pub mod CommandLaws
pub mod JournalLaws
pub mod ScriptLaws
pub mod SetupLaws
pub mod StatusLaws
