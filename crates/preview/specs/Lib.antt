-- What the two functions for C give.
pub mod Preview
