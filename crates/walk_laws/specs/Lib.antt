pub mod Seeing
pub mod Contents
