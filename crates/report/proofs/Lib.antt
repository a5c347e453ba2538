pub mod LineLaws
pub mod Printed
