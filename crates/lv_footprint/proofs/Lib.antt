pub mod GatheredLaw
