-- Laws of the definitions, and the cases of document 01 that are theorems here.
pub mod Cases
pub mod WriterLaws
pub mod PlaceLaws
pub mod ReaderLaws
pub mod CountLaws
pub mod TakenLaws
pub mod ChainLaws
pub mod Guarantees
pub mod RoundTrip
pub mod Longest
pub mod Complete
pub mod RefusalLaws
pub mod AnswerLaws
