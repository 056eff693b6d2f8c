mod Bytes
pub mod Fields
mod SignatureLaws
pub mod AuthenticatorLaws
pub mod EntryLaws
mod RowLaws
mod OpeningLaws
mod AnswerLaws
