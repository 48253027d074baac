pub mod Reports
pub mod Precedence
pub mod NextLines
pub mod NextTexts
pub mod Texts
pub mod Private
