-- The definitions that the promises of this crate cite.
pub mod Children
pub mod Numbers
