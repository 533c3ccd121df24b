-- Laws that the proofs of the functions cite: the argument (`ArgumentLaws`), the lines of a bill (`LineLaws`), what is printed of a
-- run (`BillLaws`). The whole output by the bytes of the files (`Whole`).
pub mod ArgumentLaws
pub mod LineLaws
pub mod BillLaws
pub mod Whole
