-- What a reader must believe of the words printed: which task has which number, and where a list is refused.
pub mod Search
pub mod Where
pub mod Jobs
