pub mod Banded
