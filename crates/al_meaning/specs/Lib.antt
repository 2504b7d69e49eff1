pub mod Scalars
pub mod States
pub mod Expressions
pub mod Declarations
pub mod Statements
pub mod Partitions
pub mod Examples
