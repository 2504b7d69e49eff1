pub mod Grammar
pub mod Reading
pub mod Uses
pub mod Place
pub mod Growing
pub mod Laws
