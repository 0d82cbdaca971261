pub mod KindLaws
pub mod RowLaws
pub mod SheetProofs
pub mod PlaceLaws
