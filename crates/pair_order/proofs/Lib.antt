pub mod Erasure
pub mod Placing
pub mod Making
pub mod Opening
