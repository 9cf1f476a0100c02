pub mod Reports
pub mod Outputs
pub mod Ends
pub mod Apps
pub mod Asked
