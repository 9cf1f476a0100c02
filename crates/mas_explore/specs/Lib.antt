pub mod Origins
pub mod Searches
pub mod Listings
