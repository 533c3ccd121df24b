-- What a reader must believe of the runtime's functions, beyond the definitions of the crates beneath.
pub mod View
pub mod Calls
pub mod Asked
pub mod Parts
