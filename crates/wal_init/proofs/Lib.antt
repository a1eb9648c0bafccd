pub mod Slotting
pub mod Beginning
pub mod Outcomes
pub mod Standing
pub mod Windows
pub mod Covering
