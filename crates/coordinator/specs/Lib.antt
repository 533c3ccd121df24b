-- What the program's functions say of the file of the job list.
pub mod Files
