pub mod OnTexts
