pub mod SamePlans
pub mod Chosen
pub mod FiledPlans
pub mod Filings
pub mod OwnedPlans
pub mod Owning
pub mod Countings
pub mod Changes
