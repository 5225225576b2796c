pub mod WordsLemmas
pub mod DecimalLemmas
pub mod HexadecimalLemmas
pub mod AppendLaws
