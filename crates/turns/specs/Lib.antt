-- What a reader must believe of the move, beyond the definitions of the crates beneath.
pub mod Moves
