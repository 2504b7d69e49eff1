mod EditedFile
pub mod Headed
mod Known
mod OfTexts
