pub mod Event
pub mod Fault
pub mod File
pub mod Identifier
pub mod Reading
