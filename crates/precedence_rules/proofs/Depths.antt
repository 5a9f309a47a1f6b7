-- The full rule at a depth that is not 0.
use Rattle.std.proofs.Common.{◌≡◌, ℕ, zero, suc, ◌-◌, Bool, false, ◌||◌, List, sym, refl, ap, ◌∙◌, arith}
use Rattle.edges.specs.declared.edges.Edge.{Edge}
use Rattle.edges.specs.declared.edges.Change.{Change}
use Rattle.edges.specs.declared.edges.Change.TheVariants.{Add}
use Rattle.edges.specs.Edges.{same}
use Rattle.edge_sets.specs.EdgeSets.{Edges}
use Rattle.precedence.specs.Precedence.{over}
use Rattle.precedence_rules.specs.Stronger.{stronger}

-- of additions of two edges
pub adds : (D : List Change) (s : Edges) (n : ℕ) (c d : Change) (x y : Edge) → c ≡ Add x → d ≡ Add y → (n ≡ 0 → ⊥) → same x y ≡ false → stronger D s (n - 1) x y ≡ over D s n c d
adds D s zero c d x y i j h e = absurd (h refl)
adds D s (suc n) c d x y i j h e =
    let less : suc n - 1 ≡ n = omega arith in
    ap (λ (k : ℕ). stronger D s k x y) less ∙ sym (ap (λ (b : Bool). b || stronger D s n x y) e) ∙ ap (λ (c : Change). over D s (suc n) c (Add y)) (sym i)
    ∙ ap (over D s (suc n) c) (sym j)
