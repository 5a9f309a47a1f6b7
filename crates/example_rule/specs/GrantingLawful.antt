-- The rule keeps both laws of a rule. The impl gives this proof, and may name of its own crate only what stands in specs/.
use Rattle.std.specs.Prelude.{◌≡◌, true, ◌==◌, List}
use Rattle.std.proofs.Common.{subst, ⊎_elim}
use Rattle.std.proofs.lemmas.Bool.{and_parts, or_cases, or_left, eqb-true, false≢true}
use Rattle.edges.specs.declared.edges.Change.{Change}
use Rattle.edges.specs.declared.edges.Change.TheVariants.{Add, Remove}
use Rattle.edges.specs.Edges.{edge, is_role, is_user_privilege}
use Rattle.edge_sets.specs.EdgeSets.{Edges}
use Rattle.graph.proofs.Reaching.{paths_decided}
use Rattle.graph.proofs.Vertices.{role_decides, user_privilege_decides}
use Rattle.privileges.proofs.Declared.{alike_refl, alike_equal}
use Rattle.precedence.specs.Precedence.{IsLawful, Over, itself, grants}
use Rattle.example_rule.specs.Granting.{gives, granting}

-- it says yes only where the ordering does
within : {D : List Change} {s : Edges} (c d : Change) → gives s c d ≡ true → Over D s c d
within (Remove c) d h = absurd (false≢true h)
within (Add c) (Remove d) h = absurd (false≢true h)
within {D} {s} (Add c) (Add d) h =
    let p = and_parts (is_role c.from) _ h in
    let q = and_parts (is_role d.from) _ p.1 in
    let r = and_parts (is_user_privilege c.to) _ q.1 in
    let t = and_parts (c.to == d.to) _ r.1 in
    subst (λ x. Over D s (Add c) (Add (edge d.from x))) (eqb-true c.to d.to t.0)
    (grants ((role_decides d.from).0 q.0) ((role_decides c.from).0 p.0) ((paths_decided s d.from c.from).0 t.1) ((user_privilege_decides c.to).0 r.0))

pub granting_lawful : IsLawful granting
granting_lawful = record {
  reflexive = λ D s f p c n. or_left _ _ (alike_refl c);
  within = λ D s f p c d n e h. ⊎_elim (λ q. subst (Over D s c) (alike_equal c d q) itself) (within c d) (or_cases _ _ h);
}
