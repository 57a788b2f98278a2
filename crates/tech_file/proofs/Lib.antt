mod Common
mod HeadingLaws
mod ReadTexts
mod SectionTexts
mod SoundReading
mod TextRests
mod WholeLaws
mod WholeTexts
