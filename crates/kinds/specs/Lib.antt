pub mod SheetRules
pub mod SheetLaws
