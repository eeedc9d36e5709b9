pub mod Checked
pub mod Refusals
pub mod Viewed
pub mod Terms
pub mod Limits
pub mod PrintedTerm
pub mod Renumbered
pub mod OwnTerms
