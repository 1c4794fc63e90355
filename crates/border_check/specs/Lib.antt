pub mod Squares
pub mod Views
pub mod Borders
pub mod Shares
pub mod Settled
pub mod Sides
pub mod Laws
