-- Edges are in a strict total order, and equal when their ends are.
use Rattle.std.proofs.Common.{◌≡◌, true, false, arith}
use Rattle.std.proofs.lemmas.Bool.{and_parts, eqb-true}
use Rattle.std.proofs.lemmas.Bool.Decides.{nat_tests}
use Rattle.edges.specs.declared.edges.Edge.{Edge}
use Rattle.edges.specs.Edges.{edge, same, before}

pub same_refl : (e : Edge) → same e e ≡ true
same_refl e = grind (arith, nat_tests)

pub same_equal : (d e : Edge) → same d e ≡ true → d ≡ e
same_equal d e h =
    let p = and_parts _ _ h in
    let a : d.from ≡ e.from = eqb-true _ _ p.0 in
    let b : d.to ≡ e.to = eqb-true _ _ p.1 in
    let m : edge d.from d.to ≡ edge e.from e.to = cc in m

pub same_sym : (d e : Edge) → same d e ≡ false → same e d ≡ false
same_sym d e h = grind (arith, nat_tests)

pub before_irrefl : (e : Edge) → before e e ≡ true → ⊥
before_irrefl e h = grind (arith, nat_tests)

pub before_trans : (c d e : Edge) → before c d ≡ true → before d e ≡ true → before c e ≡ true
before_trans c d e h k = grind (arith, nat_tests)

pub before_total : (d e : Edge) → same d e ≡ false → before e d ≡ false → before d e ≡ true
before_total d e h k = grind (arith, nat_tests)

pub before_differs : (d e : Edge) → before d e ≡ true → same d e ≡ false
before_differs d e h = grind (arith, nat_tests)

pub before_not_after : (d e : Edge) → before d e ≡ true → before e d ≡ false
before_not_after d e h = grind (arith, nat_tests)

pub same_not_before : (d e : Edge) → same d e ≡ true → before d e ≡ false
same_not_before d e h = grind (arith, nat_tests)
