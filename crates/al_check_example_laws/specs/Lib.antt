pub mod Examples
pub mod LabelledUnits
pub mod NominalSubtypes
pub mod Stubs
