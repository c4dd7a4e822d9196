pub use Rattle.plan_rules.specs.Taking
pub use Rattle.plan_rules.specs.Joining
