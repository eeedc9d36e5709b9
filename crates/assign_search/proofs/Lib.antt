pub mod Refuting
pub mod Lists
pub mod Rests
pub mod Steps
pub mod Reaching
pub mod Groups
pub mod Laws
pub mod Continuing
