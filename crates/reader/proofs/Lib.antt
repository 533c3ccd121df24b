-- Laws of the reader: its tables row by row, and what it answers.
pub mod RowLaws
pub mod ReadingLaws
