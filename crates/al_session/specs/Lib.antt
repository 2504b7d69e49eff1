pub mod EngineMeanings
pub mod Meanings
pub mod Orders
pub mod Reports
pub mod Results
pub mod Settled
pub mod TextOrders
