pub mod All
pub mod Putting
pub mod Tidying
pub mod Writing
