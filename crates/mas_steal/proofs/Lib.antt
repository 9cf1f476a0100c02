pub mod Journeys
pub mod Sends
