pub mod Bytes
pub mod Commands
pub mod Forms
pub mod Grammar
pub mod Padding
pub mod Runs
