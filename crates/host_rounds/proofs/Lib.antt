-- Laws that the proofs of the functions cite: the lines of the table (`LineLaws`), the table by the bytes of the two files
-- (`FileLaws`).
pub mod LineLaws
pub mod CountLaws
pub mod FileLaws
