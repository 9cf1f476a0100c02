pub mod Numbers
pub mod Table
pub mod Asked
pub mod Words
pub mod Plain
pub mod Apps
pub mod Taken
