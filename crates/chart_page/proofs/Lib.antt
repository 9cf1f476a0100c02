mod Plain
mod Texts
mod Shows
