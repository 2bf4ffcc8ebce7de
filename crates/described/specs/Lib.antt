pub mod OurBox
