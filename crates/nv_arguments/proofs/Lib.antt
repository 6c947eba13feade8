pub mod ClapRules
