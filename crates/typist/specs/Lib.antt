-- The definitions of `typist`: how much is printed.
pub mod Printed
