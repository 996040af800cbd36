pub mod Runners
pub mod RunnerOrderedLemmas
