pub mod Said
pub mod Probes
pub mod Tails
pub mod Asking
pub mod Laws
