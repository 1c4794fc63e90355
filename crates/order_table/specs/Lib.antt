pub mod Days
pub mod Table
pub mod Trees
pub mod RightTable
pub mod Laws
pub mod Made
pub mod Ready
pub mod Printing
