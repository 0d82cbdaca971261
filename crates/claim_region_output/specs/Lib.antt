pub mod Asking
pub mod Numbers
pub mod Text
pub mod Written
pub mod Printed
pub mod Words
pub mod Copies
