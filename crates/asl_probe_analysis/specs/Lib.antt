pub mod OneObject
