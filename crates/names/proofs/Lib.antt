mod Common
pub mod PlaceOrders
mod TakingLaws
mod BlockLaws
mod CountingLaws
mod TextMaps
mod FirstTileLaws
mod GroupLaws
mod NamingLaws
mod TextLists
mod NodeLists
pub mod AttachLaws
mod JoinedRegions
mod AttachmentLists
mod NamedNodeLaws
pub mod TypedTiles
