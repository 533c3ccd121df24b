-- What the functions say of the files that they read.
pub mod Files
