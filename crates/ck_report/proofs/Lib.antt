pub mod CallLemmas
pub mod ListLemmas
pub mod Splits
pub mod Forms
pub mod ReplyLemmas
pub mod Lines
