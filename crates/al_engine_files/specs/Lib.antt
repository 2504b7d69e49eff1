pub mod AdaFiles
pub mod Headed
pub mod PredefinedUnits
