pub mod LassoText
pub mod OwnWords
pub mod StepsFound
