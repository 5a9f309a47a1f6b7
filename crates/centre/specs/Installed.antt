-- The installation at whatever stage it is.
use Rattle.std.specs.Prelude.{◌≡◌}
use Rattle.calls.specs.declared.call.Call.{Call}
use Rattle.precedence.specs.Precedence.{Rule}
use Rattle.rules.specs.Outcomes.{Answer, Performs}
use Rattle.rules.specs.Installation.{naming, seating, service}
use Rattle.rules.specs.Installation as rules
use Rattle.centre.specs.declared.installation.Installation.{Installation}
use Rattle.centre.specs.declared.installation.Installation.TheVariants.{Naming, Seating, Service}
use Rattle.centre.specs.Holding.{Held, installation}

module _ {B R : Type 0} where
  abbrev pub state : Installation B R → rules.Installation
  state (Naming s) = installation naming s
  state (Seating s) = installation seating s
  state (Service s) = installation service s

  -- what the centre holds at whatever stage it is
  abbrev pub held_at : Installation B R → Held R
  held_at (Naming s) = s
  held_at (Seating s) = s
  held_at (Service s) = s

  abbrev pub rule_of : Installation B R → R
  rule_of (Naming s) = s.rule
  rule_of (Seating s) = s.rule
  rule_of (Service s) = s.rule

-- one call at whatever stage it is: it ends as the rules say, and the rule stays
pub record Gives {B R : Type 0} (over : R → Rule) (at : Installation B R) (c : Call) (a : Answer) (next : Installation B R) : Type 0 where
  pub performs : Performs (over (rule_of at)) (state at) c a (state next)
  pub rule : rule_of next ≡ rule_of at
