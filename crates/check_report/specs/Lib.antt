pub mod CheckedTexts
