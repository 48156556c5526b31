pub mod Edge
pub mod Ends
pub mod Noted
pub mod Offer
pub mod Outcome
pub mod Program
pub mod Readying
pub mod Serving
