pub mod CBooks
