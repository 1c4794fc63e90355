pub mod Table
pub mod Trees
pub mod RightSet
pub mod Laws
pub mod Made
pub mod Ready
