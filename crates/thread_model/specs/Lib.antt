pub mod Laws
pub mod Rules
pub mod Runs
pub mod State
