-- What a reader must believe of the sequential run and of replay, beyond the definitions of the crates beneath.
pub mod Replays
