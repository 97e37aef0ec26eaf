pub mod Visits
pub mod VisitsProblem
pub mod VisitsRun
