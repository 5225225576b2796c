pub mod Recovery
pub mod Safe
pub mod Committed
pub mod Engine
pub mod Opened
pub mod Exact
pub mod Formatted
pub mod ReadAnswer
