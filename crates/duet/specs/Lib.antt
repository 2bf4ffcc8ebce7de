pub mod Box
pub mod Coming
pub mod Asking
pub mod BoxLaws
