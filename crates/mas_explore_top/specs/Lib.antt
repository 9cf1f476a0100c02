pub mod Apps
pub mod Asked
pub mod Ends
pub mod Explored
pub mod Starting
