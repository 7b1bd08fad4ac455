-- The laws of `items` that others cite, and what its functions rest on.
pub mod LawsOfLaid
pub mod LawsOfItems
