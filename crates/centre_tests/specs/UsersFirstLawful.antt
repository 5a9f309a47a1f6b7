-- The rule keeps both laws of a rule. The impl gives this proof, and may name of its own crate only what stands in specs/.
use Rattle.std.specs.Prelude.{nat_lt}
use Rattle.std.proofs.Common.{subst, ⊎_elim}
use Rattle.std.proofs.lemmas.Bool.{and_parts, or_cases, or_left}
use Rattle.edges.specs.Edges.{edge_of}
use Rattle.privileges.proofs.Declared.{alike_refl, alike_equal}
use Rattle.precedence.specs.Precedence.{IsLawful, Over, itself}
use Rattle.precedence.proofs.Ordering.{rules_lawful}
use Rattle.centre_tests.specs.UsersFirst.{for_users}

pub for_users_lawful : IsLawful for_users
for_users_lawful = record {
  reflexive = λ D s f p c n. or_left _ _ (alike_refl c);
  within = λ D s f p c d n e h. ⊎_elim (λ q. subst (Over D s c) (alike_equal c d q) itself)
      (λ q. rules_lawful.1.within D s f p c d n e (and_parts (nat_lt (edge_of d).from 64) _ q).1) (or_cases _ _ h);
}
