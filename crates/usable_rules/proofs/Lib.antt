pub mod Found
pub mod SymbolsAsked
pub mod Chosen
pub mod UsableConclusions
