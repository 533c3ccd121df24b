-- Laws of the tables' rows.
pub mod RowLaws
