pub mod Made
pub mod Listed
pub mod ListedLaw
pub mod Lines
pub mod Sheets
pub mod SheetLaw
