pub mod Postings
pub mod Laws
pub mod PostingsLemmas
