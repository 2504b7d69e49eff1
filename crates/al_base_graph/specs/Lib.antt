pub mod Closing
pub mod Graphs
pub mod Orders
pub mod Placings
pub mod Relations
pub mod Searches
pub mod Ties
pub mod Walks
