mod Reports
pub mod Kept
