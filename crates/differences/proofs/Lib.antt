pub mod MendedLemmas
pub mod Records
pub mod Exactly
pub mod Calls
pub mod Rebuilding
pub mod WhatChanged
