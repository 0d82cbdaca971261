pub mod SingleFlags
