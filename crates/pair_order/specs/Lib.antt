pub mod Compared
pub mod Spoken
pub mod Entries
pub mod FirstFault
