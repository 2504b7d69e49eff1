pub mod Named
pub mod Parts
pub mod Bodies
pub mod Units
pub mod Nested
pub mod Heads
