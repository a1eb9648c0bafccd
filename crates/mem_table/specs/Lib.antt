pub mod Said
pub mod Order
pub mod Meaning
pub mod Buffers
pub mod Calls
pub mod Laws
