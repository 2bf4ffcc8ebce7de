pub mod Links
pub mod Rules
pub mod RulesLaws
