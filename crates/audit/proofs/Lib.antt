pub mod AuditLaws
pub mod FirstOtherLaws
