-- The refusals of the policy by number.
use Rattle.std.specs.Prelude.{ℕ}
use Rattle.policy.specs.declared.fault.PolicyFault as policy
use Rattle.policy.specs.declared.fault.PolicyFault.{PolicyFault}

abbrev pub policy_number : PolicyFault → ℕ
policy_number policy.TheVariants.NoEdge = 2
policy_number policy.TheVariants.Full = 4
