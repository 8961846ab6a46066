pub mod Format
pub mod Parts
pub mod Values
pub mod Rules
pub mod Steps
pub mod PartsLaws
pub mod ValuesLaws
pub mod RulesLaws
