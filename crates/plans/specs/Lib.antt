-- What a reader must believe of the parts of a run, and of what an instruction comes to.
pub mod View
pub mod Calls
pub mod Steps
