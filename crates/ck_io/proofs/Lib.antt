pub mod BytesLemmas
pub mod CountLemmas
pub mod ByteLaws
