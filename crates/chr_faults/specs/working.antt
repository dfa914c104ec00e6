pub mod ClausePlaces
pub mod TextsWithout
