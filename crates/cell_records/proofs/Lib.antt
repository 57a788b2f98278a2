mod Common
mod JoinedLaws
mod JoinedTransistors
mod RenamedTransistors
mod NodesByNumber
mod OwnFets
mod RecordLists
