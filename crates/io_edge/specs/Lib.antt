pub mod Edge
pub mod Telling
pub mod Shelf
pub mod Sink
pub mod Named
pub mod ShelfState
pub mod SinkState
pub mod Chunks
