-- The definitions of `reel`: how a reader walks.
pub mod Walk
