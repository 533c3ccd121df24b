-- Laws of taken fields, and of the instructions' forms.
pub mod FieldLaws
