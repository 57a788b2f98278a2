mod Common
mod StripTotals
mod NearStrips
mod LayerLaws
mod CifLaws
mod CifstatLaws
mod OneCif
mod OneCifstat
pub mod RestLaws
