mod Additions
mod Common
mod WrittenNumbers
mod WrittenRecords
mod DraftLaws
