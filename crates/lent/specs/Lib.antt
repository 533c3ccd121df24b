pub mod Handed
pub mod Lines
pub mod Pieces
