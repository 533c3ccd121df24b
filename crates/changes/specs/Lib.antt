-- What a reader must believe of the changes, beyond the definitions of the crates beneath.
pub mod Calls
pub mod Changes
