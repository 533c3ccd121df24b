-- Laws of a library's numbers, of a table's, and of what is asked of a list with them.
pub mod MapLaws
pub mod LibraryLaws
pub mod TableLaws
pub mod AskedLaws
