pub mod Composed
pub mod Firsts
pub mod Forms
