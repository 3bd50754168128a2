pub mod OwnCalls
pub mod Seats
pub mod RowWords
pub mod StatusRows
pub mod RowLaws
pub mod Board
pub mod Locked
