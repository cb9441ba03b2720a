pub mod EquationLaws
pub mod Heads
pub mod LinesLaws
pub mod SheetHeads
pub mod TextLaws
