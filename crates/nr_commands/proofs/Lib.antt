pub mod AuditStops
pub mod Judging
pub mod ReportLemmas
pub mod ClaimLemmas
