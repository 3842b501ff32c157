-- What the monitors keep, and for which lists they stand.
pub mod Domains
pub mod DomainView
pub mod Marks
pub mod Windowed
pub mod Moments
pub mod Progressing
pub mod ProgressView
pub mod Renewals
pub mod RenewalView
pub mod Judging
