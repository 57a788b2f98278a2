mod Common
mod ListLaws
pub mod LiveLaws
mod SlotLaws
mod PlaceShares
mod PlaceSteps
mod RoomSizes
mod BegunLaws
mod BlockLaws
