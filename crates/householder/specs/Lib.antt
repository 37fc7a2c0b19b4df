-- Householder QR. Assumes nothing.
pub mod Qr
pub mod Steps
