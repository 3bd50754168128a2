pub mod Audits
pub mod FirstOther
