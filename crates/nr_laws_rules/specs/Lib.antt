pub mod Grammar
pub mod Productions
pub mod Refusal
pub mod Texts
