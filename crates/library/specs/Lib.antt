-- The numbers of a library file.
pub mod Library
-- and those of a table of weights
pub mod Table
