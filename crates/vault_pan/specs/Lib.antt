pub mod CardText
pub mod Draw
pub mod Luhn
pub mod Mask
pub mod Pan
pub mod ShortTexts
