pub mod Depths
pub mod Laws
pub mod Links
pub mod Parts
pub mod Rules
pub mod SelfChecks
pub mod Shown
pub mod Tests
