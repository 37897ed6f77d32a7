mod Texts
pub mod Words
pub mod Lists
