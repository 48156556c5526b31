pub mod GivenLemmas
