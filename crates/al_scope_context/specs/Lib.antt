pub mod ContextPragmas
pub mod Contexts
pub mod Pragmas
pub mod UsesAt
