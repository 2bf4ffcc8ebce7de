pub mod KeptRun
pub mod ThirdExactly
pub mod PlainSources
pub mod InPlainWords
pub mod ThirdShows
pub mod Choosing
pub mod Case3
