pub mod ContentFits
pub mod RowsFit
pub mod TallyFits
