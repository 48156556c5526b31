pub mod Bases
pub mod Certificates
pub mod Checks
pub mod Grounds
