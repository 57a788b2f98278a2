mod Common
mod OneLine
mod RestLaws
mod RunLaws
