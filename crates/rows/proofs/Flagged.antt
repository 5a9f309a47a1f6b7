-- The set that rows of bits stand for, and what turning one bit does to it.
use Rattle.std.proofs.Common.{◌≡◌, ℕ, zero, suc, ◌+◌, ◌*◌, ◌/◌, ◌%◌, ◌^◌, ◌<◌, ◌≤◌, Bool, true, false, not, eqb, List, [], length, get_or, replicate, sym, refl, ap, ◌∙◌, subst, ⊎_elim, arith}
use native.Mathlib.Nat.{zero-div}
use Rattle.std.proofs.lemmas.Bool.{cases_Bool, both_ways}
use Rattle.std.proofs.lemmas.Bool.Decides.{nat_tests}
use Rattle.edges.specs.declared.edges.Edge.{Edge}
use Rattle.edges.specs.Edges.{edge, vault_edge}
use Rattle.edge_sets.specs.EdgeSets.{has, insert, delete, Ascending, ◌∈◌, ◌∉◌, all_vault}
use Rattle.edge_sets.specs.BitRows.{bit, Row}
use Rattle.edge_sets.proofs.BitRows.{bit_none}
use Rattle.edge_sets.specs.Cells.{cell, listed}
use Rattle.edge_sets.proofs.Cells.{cell_within, cell_edge, listed_ascends, has_listed, insert_listed, delete_listed, listed_none}
use Rattle.edge_sets.proofs.Ascents.{length_delete}
use Rattle.edge_sets.proofs.Members.{vault_member, length_insert, vault_insert, vault_delete}
use Rattle.rows.specs.Flags.{bit_at, flagged}

pub flagged_ascends : (ws : List ℕ) → Ascending (flagged ws)
unfolding flagged
flagged_ascends ws = listed_ascends (bit_at ws) 0 32768

-- an edge is held just when its bit is set
pub has_flag : (ws : List ℕ) (e : Edge) → vault_edge e ≡ true → has (flagged ws) e ≡ bit_at ws (cell e)
unfolding flagged
has_flag ws e h =
    let b = cell_within e h in
    subst (λ (x : Edge). has (listed (bit_at ws) 0 32768) x ≡ bit_at ws (cell e)) (cell_edge e b.1)
    (has_listed (bit_at ws) (cell e) 0 32768 (omega arith) (omega arith))

pub no_flag : (ws : List ℕ) (e : Edge) → all_vault (flagged ws) ≡ true → vault_edge e ≡ false → e ∉ flagged ws
no_flag ws e all n =
    ⊎_elim
    (λ (h : has (flagged ws) e ≡ true). absurd (both_ways (vault_edge e) n (vault_member e (flagged ws) all h)))
    (λ (h : has (flagged ws) e ≡ false). h)
    (cases_Bool (has (flagged ws) e))

-- us is ws with the bit k of e turned
module _ (ws us : List ℕ) (e : Edge) (k : ℕ) (h : vault_edge e ≡ true) (is : k ≡ cell e) (here : bit_at us k ≡ not (bit_at ws k))
    (others : (j : ℕ) → (j ≡ k → ⊥) → bit_at us j ≡ bit_at ws j) where
  else : (j : ℕ) → (j ≡ cell e → ⊥) → bit_at us j ≡ bit_at ws j
  else j ne = others j (λ z. ne (z ∙ is))

  was : (v : Bool) → has (flagged ws) e ≡ v → bit_at ws (cell e) ≡ v
  was v q = sym (has_flag ws e h) ∙ q

  turned : (v : Bool) → has (flagged ws) e ≡ v → bit_at us (cell e) ≡ not v
  turned v q = ap (bit_at us) (sym is) ∙ here ∙ ap (λ (j : ℕ). not (bit_at ws j)) is ∙ ap not (was v q)

  -- an absent edge is held then, and a held one absent
  pub set_flag : e ∉ flagged ws → flagged us ≡ insert e (flagged ws)
  unfolding flagged
  set_flag q =
      let b = cell_within e h in
      insert_listed (bit_at ws) (bit_at us) (cell e) else 0 32768 (omega arith) (omega arith) (was false q) (turned false q)
      ∙ ap (λ (x : Edge). insert x (listed (bit_at ws) 0 32768)) (cell_edge e b.1)

  pub clear_flag : e ∈ flagged ws → flagged us ≡ delete e (flagged ws)
  unfolding flagged
  clear_flag q =
      let b = cell_within e h in
      delete_listed (bit_at ws) (bit_at us) (cell e) else 0 32768 (omega arith) (omega arith) (was true q) (turned true q)
      ∙ ap (λ (x : Edge). delete x (listed (bit_at ws) 0 32768)) (cell_edge e b.1)

  -- the set stays one of vault edges, with one edge more or one less
  pub set_vault : e ∉ flagged ws → all_vault (flagged ws) ≡ true → all_vault (flagged us) ≡ true
  set_vault q all = rw (set_flag q) (vault_insert e (flagged ws) h all)

  pub clear_vault : e ∈ flagged ws → all_vault (flagged ws) ≡ true → all_vault (flagged us) ≡ true
  clear_vault q all = rw (clear_flag q) (vault_delete e (flagged ws) all)

  pub set_counted : e ∉ flagged ws → length (flagged us) ≡ suc (length (flagged ws))
  set_counted q = rw (set_flag q) (length_insert e (flagged ws) q)

  pub clear_counted : e ∈ flagged ws → suc (length (flagged us)) ≡ length (flagged ws)
  clear_counted q = rw (clear_flag q) (length_delete e (flagged ws) (flagged_ascends ws) q)

zeros : (n i : ℕ) → get_or {A = ℕ} (replicate n 0) i 0 ≡ 0
zeros zero i = refl
zeros (suc n) zero = refl
zeros (suc n) (suc i) = zeros n i

pub no_flags : (ws : List ℕ) (n : ℕ) → ws ≡ replicate n 0 → flagged ws ≡ []
unfolding flagged
no_flags ws n e =
    listed_none (bit_at ws) 0 32768
    (λ j. ap (λ (us : List ℕ). bit_at us j) e ∙ ap (λ (w : ℕ). eqb (w / 2 ^ (j % 64) % 2) 1) (zeros n (j / 64)) ∙ ap (λ (w : ℕ). eqb (w % 2) 1) (zero-div (2 ^ (j % 64))))

-- the second word of a row has the bits of roles
pub role_flags : (ws : List ℕ) (v w : ℕ) → v < 128 → w ≡ get_or ws (v * 4 + 1) 0 → Row (flagged ws) v w
role_flags ws v w l q k m =
    let e : Edge = edge v (64 + k) in
    let h : vault_edge e ≡ true = grind (arith, nat_tests) in
    let a : cell e / 64 ≡ v * 4 + 1 = omega arith in
    let b : cell e % 64 ≡ k = omega arith in
    let r : bit_at ws (cell e) ≡ bit (get_or ws (v * 4 + 1) 0) k = ap (λ (i : ℕ). eqb (get_or ws i 0 / 2 ^ (cell e % 64) % 2) 1) a ∙ ap (bit (get_or ws (v * 4 + 1) 0)) b in
    ap (λ (n : ℕ). bit n k) q ∙ sym r ∙ sym (has_flag ws e h)

-- and past the rows there is no edge
pub no_role_flags : (ws : List ℕ) (v : ℕ) → all_vault (flagged ws) ≡ true → 128 ≤ v → Row (flagged ws) v 0
no_role_flags ws v all l k m =
    let h : vault_edge (edge v (64 + k)) ≡ false = grind (arith, nat_tests) in
    bit_none k ∙ sym (no_flag ws (edge v (64 + k)) all h)
