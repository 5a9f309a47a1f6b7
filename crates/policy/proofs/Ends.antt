-- What lies at the end of a path: the last edge of a path to anything but a role leaves a role that is reached.
use Rattle.std.proofs.Common.{◌≡◌, ℕ, ◌+◌, ◌-◌, ◌<◌, ◌≤◌, Bool, true, false, ◌||◌, List, [], ◌∷◌, Some, None, Option, sym, refl, ◌∙◌, ap, subst, ⊎_elim, arith}
use Rattle.std.specs.List.{list_any}
use Rattle.std.proofs.lemmas.Bool.{false≢true, and_parts, and_from, or_cases, or_left, or_right}
use Rattle.std.proofs.lemmas.Bool.Decides.{nat_tests, same_from_decides}
use Rattle.edges.specs.declared.edges.Edge.{Edge}
use Rattle.edges.specs.declared.edges.Change.{Change}
use Rattle.edges.specs.Edges.{edge, same, is_user, is_role, is_user_privilege}
use Rattle.edge_sets.specs.EdgeSets.{Edges, has, all_edges, ◌∈◌}
use Rattle.edge_sets.specs.BitRows.{bit, has_role}
use Rattle.edge_sets.proofs.BitRows.{has_none}
use Rattle.edge_sets.proofs.Order.{same_refl, same_equal}
use Rattle.graph.specs.Paths.{Reach, here, step}
use Rattle.privileges.specs.Privileges.{Names, named}
use Rattle.graph.specs.Paths.{concerns}
use Rattle.precedence.specs.Authorisation.{reaches_over}
use Rattle.edge_sets.proofs.Decisions.{Decides, decides_iff}
use Rattle.graph.proofs.Reaching.{reach_trans}
use Rattle.privileges.proofs.Declared.{named_names, names_named}
use Rattle.precedence.proofs.Authorisation.{HoldsOver, over_decides}
use Rattle.graph.proofs.Concerns.{Below, concerns_decides}
use Rattle.graph.specs.Searches.{ReachesRoles}
use Rattle.graph.proofs.Closures.{last_edge, leaves_role}
use Rattle.policy.specs.Rights.{stands_at, leads_to}

-- some edge of a list passes a test
some_edge : (test : Edge → Bool) (s : Edges) → list_any test s ≡ true → (x : Edge) × (x ∈ s) × (test x ≡ true)
some_edge test [] h = absurd (false≢true h)
some_edge test (d ∷ s) h = ⊎_elim
    (λ (k : test d ≡ true). (d, or_left (same d d) (has s d) (same_refl d), k))
    (λ (k : list_any test s ≡ true). let y = some_edge test s k in (y.0, or_right (same d y.0) (has s y.0) y.1, y.2))
    (or_cases (test d) (list_any test s) h)

edge_some : (test : Edge → Bool) (s : Edges) (x : Edge) → x ∈ s → test x ≡ true → list_any test s ≡ true
edge_some test [] x m h = absurd (false≢true m)
edge_some test (d ∷ s) x m h = ⊎_elim
    (λ (k : same d x ≡ true). or_left (test d) (list_any test s) (subst (λ (y : Edge). test y ≡ true) (sym (same_equal d x k)) h))
    (λ (k : x ∈ s). or_right (test d) (list_any test s) (edge_some test s x k h))
    (or_cases (same d x) (has s x) m)

-- v reaches a vertex that passes the test
abbrev pub ReachesOne : Edges → ℕ → (ℕ → Bool) → Type 0
ReachesOne s v test = (p : ℕ) × (test p ≡ true) × Reach s v p

-- where no role passes it, that is v itself, or an edge from a role that v reaches leads to it
module _ (s : Edges) (v w : ℕ) (test : ℕ → Bool) (f : all_edges s ≡ true) (n : (p : ℕ) → test p ≡ true → is_role p ≡ false)
    (c : ReachesRoles s v w) where
  pub one_decided : Decides (test v || list_any (leads_to w test) s) (ReachesOne s v test)
  one_decided = (to, from)
    where
      over : (x : Edge) × (x ∈ s) × (leads_to w test x ≡ true) → ReachesOne s v test
      over (x, m, h) =
          let k = and_parts (has_role w x.from) (test x.to) h in
          let r : is_role x.from ≡ true = (and_parts (is_role x.from) (bit w (x.from - 64)) k.0).0 in
          (x.to, k.1, reach_trans ((c x.from r).0 k.0) (step m here))

      to : (test v || list_any (leads_to w test) s) ≡ true → ReachesOne s v test
      to h = ⊎_elim (λ k. (v, k, here)) (λ k. over (some_edge (leads_to w test) s k)) (or_cases (test v) (list_any (leads_to w test) s) h)

      from : ReachesOne s v test → (test v || list_any (leads_to w test) s) ≡ true
      from (p, h, r) = ⊎_elim
          (λ (q : v ≡ p). or_left (test v) (list_any (leads_to w test) s) (subst (λ (i : ℕ). test i ≡ true) (sym q) h))
          (λ y. or_right (test v) (list_any (leads_to w test) s) (last y.0 y.1 y.2))
          (last_edge s r)
        where
          last : (x : ℕ) → Reach s v x → (edge x p ∈ s) → list_any (leads_to w test) s ≡ true
          last x r e =
              let l = leaves_role s f x p (n p h) e in
              let o : is_role x ≡ true = grind (arith, nat_tests) in
              edge_some (leads_to w test) s (edge x p) e (and_from (has_role w x) (test p) ((c x o).1 r) h)

-- from no role leads an edge
pub none_lead : (test : ℕ → Bool) (s : Edges) (w : ℕ) → w ≡ 0 → list_any (leads_to w test) s ≡ false
none_lead test [] w z = refl
none_lead test (d ∷ s) w z = rw (z, has_none d.from) (none_lead test s w z)

-- whether a vertex concerns a place that keeps these privileges
pub concerned_by : (s : Edges) (v w : ℕ) (kept : ℕ → Bool) → all_edges s ≡ true
    → ((p : ℕ) → kept p ≡ true → is_user_privilege p ≡ true) → ReachesRoles s v w
    → (kept v || list_any (leads_to w kept) s) ≡ concerns s kept v 256
concerned_by s v w kept f k c = same_from_decides _ _ (one_decided s v w kept f no_role c) (decides_iff _ (to, from) (concerns_decides s kept v 256))
  where
    no_role : (p : ℕ) → kept p ≡ true → is_role p ≡ false
    no_role p h = let u = k p h in grind (arith, nat_tests)

    to : Below s kept v 256 → ReachesOne s v kept
    to (p, l, h, r) = (p, h, r)

    from : ReachesOne s v kept → Below s kept v 256
    from (p, h, r) = let u = k p h in (p, grind (arith, nat_tests), h, r)

-- where a privilege stands, that is its number
module _ (stands : Change → Bool) (D : List Change) (p : ℕ) where
  stands_named : stands_at stands D p ≡ true → (d : Change) × Names D p d × (stands d ≡ true)
  stands_named h = by (named D p) refl h
    where
      by : (o : Option Change) → named D p ≡ o → elim o [ None ↦ false | Some d ↦ stands d ] ≡ true
          → (d : Change) × Names D p d × (stands d ≡ true)
      by None q h = absurd (false≢true h)
      by (Some d) q h = (d, named_names D p d q, h)

  named_stands : (d : Change) → Names D p d → stands d ≡ true → stands_at stands D p ≡ true
  named_stands d m h = rw (names_named D p d m, stands_at) h

  pub low_stands : p < 256 → stands_at stands D p ≡ false
  low_stands l = grind (arith, nat_tests)

-- whether a user reaches a privilege that stands over
pub authorised_by : (s : Edges) (u w : ℕ) (stands : Change → Bool) (D : List Change) → all_edges s ≡ true
    → is_user u ≡ true → ReachesRoles s u w
    → list_any (leads_to w (stands_at stands D)) s ≡ reaches_over stands s u 256 D
authorised_by s u w stands D f i c =
    ap (λ (b : Bool). b || list_any (leads_to w (stands_at stands D)) s) (sym (low_stands stands D u (grind (arith, nat_tests))))
    ∙ same_from_decides _ _ (one_decided s u w (stands_at stands D) f no_role c) (decides_iff _ (to, from) (over_decides stands s u 256 D))
  where
    no_role : (p : ℕ) → stands_at stands D p ≡ true → is_role p ≡ false
    no_role p h = let m = stands_named stands D p h in let l : 256 ≤ p = omega (arith, m.1.1) in grind (arith, nat_tests)

    to : HoldsOver stands s u 256 D → ReachesOne s u (stands_at stands D)
    to (i, d, n, r, h) = (i + 256, named_stands stands D (i + 256) d (i, refl, n) h, r)

    from : ReachesOne s u (stands_at stands D) → HoldsOver stands s u 256 D
    from (p, h, r) =
        let m = stands_named stands D p h in
        (m.1.0, m.0, m.1.2, subst (λ (n : ℕ). Reach s u n) m.1.1 r, m.2)
