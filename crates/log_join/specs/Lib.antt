pub mod Cells
pub mod Stores
pub mod Coming
pub mod Answers
pub mod Laws
pub mod Families
pub mod FamilyLaws
pub mod machinery
