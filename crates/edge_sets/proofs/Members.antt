-- What a set has after an insertion or a deletion, and how many edges.
use Rattle.std.proofs.Common.{◌≡◌, suc, ◌≤◌, Bool, true, false, cond, not, ◌&&◌, ◌||◌, ◌⊎◌, [], ◌∷◌, length, sym, refl, ap, ◌∙◌, subst, inl, inr, ⊎_elim, arith}
use Rattle.std.proofs.lemmas.Bool.{or_cases, or_parts, or_left, or_right, and_parts, and_from, both_ways, false≢true}
use Rattle.edges.specs.declared.edges.Edge.{Edge}
use Rattle.edges.specs.Edges.{same, before, is_edge, vault_edge}
use Rattle.edge_sets.specs.EdgeSets.{Edges, has, insert, delete, ◌∈◌, ◌∉◌, all_edges, all_vault}
use Rattle.edge_sets.proofs.Order.{same_refl, same_equal}

or_twice : (a b : Bool) → (a || b) ≡ (a || (a || b))
or_twice true b = refl
or_twice false b = refl

or_swap : (a b c : Bool) → (a || (b || c)) ≡ (b || (a || c))
or_swap true true c = refl
or_swap true false c = refl
or_swap false b c = refl

pub has_insert : (e : Edge) (s : Edges) (x : Edge) → has (insert e s) x ≡ (same e x || has s x)
has_insert e [] x = refl
has_insert e (d ∷ s) x = by (same d e) (before e d) refl (has_insert e s x)
  where
    by : (b c : Bool) → same d e ≡ b → has (insert e s) x ≡ (same e x || has s x)
        → has (cond b (d ∷ s) (cond c (e ∷ d ∷ s) (d ∷ insert e s))) x ≡ (same e x || has (d ∷ s) x)
    by true c p ih = rw (sym (same_equal d e p)) (or_twice (same d x) (has s x))
    by false true p ih = refl
    by false false p ih = ap (λ (b : Bool). same d x || b) ih ∙ or_swap (same d x) (same e x) (has s x)

pub has_delete : (e : Edge) (s : Edges) (x : Edge) → has (delete e s) x ≡ (not (same e x) && has s x)
has_delete e [] x = by (same e x)
  where
    by : (a : Bool) → false ≡ (not a && false)
    by true = refl
    by false = refl
has_delete e (d ∷ s) x = by (same d e) refl (has_delete e s x)
  where
    absorb : (a b : Bool) → (not a && b) ≡ (not a && (a || b))
    absorb true b = refl
    absorb false b = refl

    apart : same d e ≡ false → same e x ≡ true → same d x ≡ true → ⊥
    apart p a b =
        let i : e ≡ x = same_equal e x a in
        let j : d ≡ x = same_equal d x b in
        let k : d ≡ e = cc in
        both_ways (same e e) (rw k at p) (same_refl e)

    move : (a b c : Bool) → (a ≡ true → b ≡ true → ⊥) → (b || (not a && c)) ≡ (not a && (b || c))
    move true true c h = absurd (h refl refl)
    move true false c h = refl
    move false b c h = refl

    by : (b : Bool) → same d e ≡ b → has (delete e s) x ≡ (not (same e x) && has s x)
        → has (cond b (delete e s) (d ∷ delete e s)) x ≡ (not (same e x) && has (d ∷ s) x)
    by true p ih = ih ∙ rw (same_equal d e p) (absorb (same e x) (has s x))
    by false p ih = ap (λ (b : Bool). same d x || b) ih ∙ move (same e x) (same d x) (has s x) (apart p)

pub insert_new : (e : Edge) (s : Edges) → e ∈ insert e s
insert_new e s = has_insert e s e ∙ or_left (same e e) (has s e) (same_refl e)

pub insert_old : (e : Edge) (s : Edges) (x : Edge) → x ∈ s → x ∈ insert e s
insert_old e s x h = has_insert e s x ∙ or_right (same e x) (has s x) h

pub insert_cases : (e : Edge) (s : Edges) (x : Edge) → x ∈ insert e s → (e ≡ x) ⊎ (x ∈ s)
insert_cases e s x h =
    ⊎_elim (λ (p : same e x ≡ true). inl (same_equal e x p)) inr (or_cases (same e x) (has s x) (sym (has_insert e s x) ∙ h))

pub insert_else : (e : Edge) (s : Edges) (x : Edge) → same e x ≡ false → has (insert e s) x ≡ has s x
insert_else e s x p = has_insert e s x ∙ ap (λ (b : Bool). b || has s x) p

pub delete_gone : (e : Edge) (s : Edges) → e ∉ delete e s
delete_gone e s = has_delete e s e ∙ ap (λ (b : Bool). not b && has s e) (same_refl e)

pub delete_old : (e : Edge) (s : Edges) (x : Edge) → x ∈ delete e s → x ∈ s
delete_old e s x h = (and_parts (not (same e x)) (has s x) (sym (has_delete e s x) ∙ h)).1

pub delete_else : (e : Edge) (s : Edges) (x : Edge) → same e x ≡ false → has (delete e s) x ≡ has s x
delete_else e s x p = has_delete e s x ∙ ap (λ (b : Bool). not b && has s x) p

pub delete_absent : (e : Edge) (s : Edges) → e ∉ s → delete e s ≡ s
delete_absent e [] h = refl
delete_absent e (d ∷ s) h =
    let p = or_parts (same d e) (has s e) h in
    rw p.0 (ap (λ (t : Edges). d ∷ t) (delete_absent e s p.1))

-- how many edges
pub length_insert : (e : Edge) (s : Edges) → e ∉ s → length (insert e s) ≡ suc (length s)
length_insert e [] h = refl
length_insert e (d ∷ s) h = by (before e d) (length_insert e s p.1)
  where
    p : (same d e ≡ false) × (e ∉ s)
    p = or_parts (same d e) (has s e) h

    by : (c : Bool) → length (insert e s) ≡ suc (length s)
        → length (cond (same d e) (d ∷ s) (cond c (e ∷ d ∷ s) (d ∷ insert e s))) ≡ suc (suc (length s))
    by true ih = rw p.0
    by false ih = rw p.0 (ap suc ih)

pub length_delete_most : (e : Edge) (s : Edges) → length (delete e s) ≤ length s
length_delete_most e [] = omega arith
length_delete_most e (d ∷ s) = by (same d e) (length_delete_most e s)
  where
    by : (b : Bool) → length (delete e s) ≤ length s → length (cond b (delete e s) (d ∷ delete e s)) ≤ suc (length s)
    by true ih = omega arith
    by false ih = omega arith

-- what all edges of a set pass, where all says so of a set: it stays so with one more that passes and with one less, and each passes
module _ (test : Edge → Bool) (all : Edges → Bool) (none : all [] ≡ true) (parts : (d : Edge) (s : Edges) → all (d ∷ s) ≡ (test d && all s)) where
  both : (d : Edge) (s : Edges) → test d ≡ true → all s ≡ true → all (d ∷ s) ≡ true
  both d s h k = parts d s ∙ and_from (test d) (all s) h k

  each : (d : Edge) (s : Edges) → all (d ∷ s) ≡ true → (test d ≡ true) × (all s ≡ true)
  each d s k = and_parts (test d) (all s) (sym (parts d s) ∙ k)

  all_insert : (e : Edge) (s : Edges) → test e ≡ true → all s ≡ true → all (insert e s) ≡ true
  all_insert e [] h k = both e [] h none
  all_insert e (d ∷ s) h k = by (same d e) (before e d) (all_insert e s h p.1)
    where
      p : (test d ≡ true) × (all s ≡ true)
      p = each d s k

      by : (b c : Bool) → all (insert e s) ≡ true → all (cond b (d ∷ s) (cond c (e ∷ d ∷ s) (d ∷ insert e s))) ≡ true
      by true c ih = k
      by false true ih = both e (d ∷ s) h k
      by false false ih = both d (insert e s) p.0 ih

  all_delete : (e : Edge) (s : Edges) → all s ≡ true → all (delete e s) ≡ true
  all_delete e [] k = none
  all_delete e (d ∷ s) k = by (same d e) (all_delete e s p.1)
    where
      p : (test d ≡ true) × (all s ≡ true)
      p = each d s k

      by : (b : Bool) → all (delete e s) ≡ true → all (cond b (delete e s) (d ∷ delete e s)) ≡ true
      by true ih = ih
      by false ih = both d (delete e s) p.0 ih

  all_member : (e : Edge) (s : Edges) → all s ≡ true → e ∈ s → test e ≡ true
  all_member e [] k h = absurd (false≢true h)
  all_member e (d ∷ s) k h =
      let p = each d s k in
      ⊎_elim
      (λ (q : same d e ≡ true). subst (λ (x : Edge). test x ≡ true) (same_equal d e q) p.0)
      (λ (q : e ∈ s). all_member e s p.1 q)
      (or_cases (same d e) (has s e) h)

-- sets of vault edges
pub vault_insert : (e : Edge) (s : Edges) → vault_edge e ≡ true → all_vault s ≡ true → all_vault (insert e s) ≡ true
vault_insert = all_insert vault_edge all_vault refl (λ d s. refl)

pub vault_delete : (e : Edge) (s : Edges) → all_vault s ≡ true → all_vault (delete e s) ≡ true
vault_delete = all_delete vault_edge all_vault refl (λ d s. refl)

pub vault_member : (e : Edge) (s : Edges) → all_vault s ≡ true → e ∈ s → vault_edge e ≡ true
vault_member = all_member vault_edge all_vault refl (λ d s. refl)

-- sets of edges
pub edge_insert : (e : Edge) (s : Edges) → is_edge e ≡ true → all_edges s ≡ true → all_edges (insert e s) ≡ true
edge_insert = all_insert is_edge all_edges refl (λ d s. refl)

pub edge_delete : (e : Edge) (s : Edges) → all_edges s ≡ true → all_edges (delete e s) ≡ true
edge_delete = all_delete is_edge all_edges refl (λ d s. refl)

pub edge_member : (e : Edge) (s : Edges) → all_edges s ≡ true → e ∈ s → is_edge e ≡ true
edge_member = all_member is_edge all_edges refl (λ d s. refl)

pub vault_edges : (s : Edges) → all_vault s ≡ true → all_edges s ≡ true
vault_edges [] k = refl
vault_edges (d ∷ s) k =
    let p = and_parts (vault_edge d) (all_vault s) k in
    and_from (is_edge d) (all_edges s) (and_parts (is_edge d) _ p.0).0 (vault_edges s p.1)
