-- What the refusals of the policy say.
use Rattle.std.specs.Prelude.{ℕ, List, codes}
use Rattle.policy.specs.declared.fault.PolicyFault.{PolicyFault}
use Rattle.policy.specs.declared.fault.PolicyFault.TheVariants as policy

abbrev pub policy_text : PolicyFault → List ℕ
policy_text policy.NoEdge = codes "the pair is no edge"
policy_text policy.Full = codes "the policy has 512 edges"
