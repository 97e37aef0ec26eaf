pub mod BudgetFaults
pub mod BudgetForms
pub mod BudgetWords
pub mod CommandLemmas
pub mod CommandWords
pub mod Numbers
pub mod PlacesFaults
pub mod PlacesWords
