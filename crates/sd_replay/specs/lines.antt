-- What is found of one event, and its lines.
pub mod Printed
pub mod Findings
