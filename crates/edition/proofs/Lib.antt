pub mod KeepsLaws
