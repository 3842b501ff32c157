pub mod flights
pub mod rounds
