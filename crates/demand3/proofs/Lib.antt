pub mod Cells
pub mod ThreeParts
pub mod LossyCalls
pub mod ExactLossy
