pub mod OutputProofs
