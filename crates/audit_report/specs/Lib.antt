pub mod ClaimedNumbers
