pub mod Slots
pub mod Windows
pub mod Fences
pub mod WriterInit
pub mod Opening
pub mod Laws
