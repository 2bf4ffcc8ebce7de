mod Searched
mod Storing
mod Passing
