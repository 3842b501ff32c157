pub mod clocks
pub mod loss
pub mod renewal
