pub mod Bytes
pub mod Once
pub mod Viewing
pub mod Stack
pub mod Again
pub mod Words
pub mod Existence
