pub mod Names
pub mod NameTable
pub mod Symbols
pub mod Named
pub mod NamesFault
pub mod VariableNames
