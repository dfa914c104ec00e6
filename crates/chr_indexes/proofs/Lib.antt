pub mod HashFields
pub mod HashLinks
pub mod HashRows
pub mod RangeLinks
pub mod EntriesBelow
pub mod PairsCrossed
