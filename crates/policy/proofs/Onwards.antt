-- For each role the roles that it reaches: with one edge more, without one that is not between roles, and from several roles.
use Rattle.std.proofs.Common.{◌≡◌, ℕ, ◌+◌, ◌^◌, ◌<◌, ◌≤◌, Bool, true, false, cond, not, ◌||◌, ◌⊎◌, eqb, nat_lt, bit_or, [], sym, refl, ◌∙◌, ap, subst, inl, inr, ⊎_elim, arith}
use Rattle.std.specs.Int.Bits.{or_zero_r}
use Rattle.std.proofs.lemmas.Bool.{both_ways, true_from_ne_false, not_from_false, eqb-true, and_parts, and_from, or_cases}
use Rattle.std.proofs.lemmas.Bool.Decides.{nat_tests, same_from_decides}
use Rattle.edges.specs.declared.edges.Edge.{Edge}
use Rattle.edges.specs.Edges.{same, is_edge, is_role}
use Rattle.edge_sets.specs.EdgeSets.{Edges, insert, delete, all_edges, ◌∈◌}
use Rattle.edge_sets.specs.BitRows.{has_role, role_word, is_beyond}
use Rattle.edge_sets.proofs.Order.{same_equal}
use Rattle.edge_sets.proofs.Members.{insert_cases, delete_old, delete_else}
use Rattle.edge_sets.proofs.BitRows.{has_none, has_or, has_with}
use Rattle.graph.specs.Paths.{Reach, reaches}
use Rattle.graph.proofs.Reaching.{reach_mono, reach_split, reach_insert, reach_new, paths_decided}
use Rattle.graph.specs.Searches.{ReachesRoles, FromRoles, Closure}
use Rattle.graph.proofs.Closures.{a_role, or_has_left, or_has_right, role_step, to_role, last_edge, still_word}
use Rattle.policy.specs.declared.role_paths.RolePaths.{RolePaths}
use Rattle.policy.specs.Onwards.{onward, Tells, joined, Renewed}

-- what a role reaches and leads on is a role
on_to_role : (s : Edges) → all_edges s ≡ true → {v y : ℕ} → is_role v ≡ true → Reach s v y → y < 128 → is_role y ≡ true
on_to_role s f {v} {y} r p l =
    ⊎_elim (λ q. subst (λ (n : ℕ). is_role n ≡ true) q r)
    (λ z. let h : 64 ≤ y = (role_step s f z.0 y z.2).1 in grind (arith, nat_tests))
    (last_edge s p)

-- an edge that a path between two roles goes through is between roles
begins_at_role : (s : Edges) (e : Edge) → all_edges s ≡ true → is_edge e ≡ true → (v : ℕ) → is_role v ≡ true → Reach s v e.from → is_role e.from ≡ true
begins_at_role s e f g v r p = let l : e.from < 128 = grind (arith, nat_tests) in on_to_role s f r p l

ends_at_role : (s : Edges) (e : Edge) → all_edges s ≡ true → is_edge e ≡ true → (x : ℕ) → is_role x ≡ true → Reach s e.to x → is_role e.to ≡ true
ends_at_role s e f g x o p =
    let z : x < 128 = grind (arith, nat_tests) in
    let l : e.to < 128 = to_role s f p z in
    grind (arith, nat_tests)

-- what is kept, by paths
abbrev pub Telling : Edges → RolePaths → Type 0
Telling s p = (v : ℕ) → is_role v ≡ true → ReachesRoles s v (onward p v)

by_paths : (s : Edges) (p : RolePaths) → Tells s p → Telling s p
by_paths s p t v r x o =
    (λ h. (paths_decided s v x).0 (sym (t v x r o) ∙ h), λ y. t v x r o ∙ (paths_decided s v x).1 y)

pub from_paths : (s : Edges) (p : RolePaths) → ((v : ℕ) → is_role v ≡ true → ReachesRoles s v (onward p v)) → Tells s p
from_paths s p t v x r o = same_from_decides (has_role (onward p v) x) (reaches s v x) (t v r x o) (paths_decided s v x)

-- one edge more
joined_telling : (s : Edges) (e : Edge) (p q : RolePaths) → all_edges s ≡ true → is_edge e ≡ true → Telling s p
    → ((v : ℕ) → is_role v ≡ true → onward q v ≡ joined p e v) → Telling (insert e s) q
joined_telling s e p q f g t j v r x o = (λ h. there (subst (λ (n : ℕ). has_role n x ≡ true) (j v r) h), λ y. subst (λ (n : ℕ). has_role n x ≡ true) (sym (j v r)) (back y))
  where
    there : has_role (joined p e v) x ≡ true → Reach (insert e s) v x
    there = by (has_role (onward p v) e.from) refl
      where
        by : (b : Bool) → has_role (onward p v) e.from ≡ b → has_role (cond b (bit_or (onward p v) (onward p e.to)) (onward p v)) x ≡ true
            → Reach (insert e s) v x
        by false k h = reach_insert e s ((t v r x o).0 h)
        by true k h = ⊎_elim (λ a. reach_insert e s ((t v r x o).0 a)) on (or_cases _ _ (sym (has_or (onward p v) (onward p e.to) x) ∙ h))
          where
            on : has_role (onward p e.to) x ≡ true → Reach (insert e s) v x
            on a = to (is_role e.to) refl
              where
                to : (b : Bool) → is_role e.to ≡ b → Reach (insert e s) v x
                to true m = reach_new e s ((t v r e.from (a_role (onward p v) e.from k)).0 k) ((t e.to m x o).0 a)
                to false m = absurd (both_ways (has_role (onward p e.to) x) (rw m (has_none x)) a)

    back : Reach (insert e s) v x → has_role (joined p e v) x ≡ true
    back y = ⊎_elim old new (reach_split e (insert_cases e s) y)
      where
        old : Reach s v x → has_role (joined p e v) x ≡ true
        old z = by (has_role (onward p v) e.from)
          where
            by : (b : Bool) → has_role (cond b (bit_or (onward p v) (onward p e.to)) (onward p v)) x ≡ true
            by false = (t v r x o).1 z
            by true = or_has_left (onward p v) (onward p e.to) x ((t v r x o).1 z)

        new : Reach s v e.from × Reach s e.to x → has_role (joined p e v) x ≡ true
        new (a, b) =
            let m = begins_at_role s e f g v r a in
            let n = ends_at_role s e f g x o b in
            rw ((t v r e.from m).1 a) (or_has_right (onward p v) (onward p e.to) x ((t e.to n x o).1 b))

pub joined_tells : (s t : Edges) (e : Edge) (p q : RolePaths) → all_edges s ≡ true → is_edge e ≡ true → Tells s p → t ≡ insert e s
    → ((v : ℕ) → is_role v ≡ true → onward q v ≡ joined p e v) → Tells t q
joined_tells s t e p q f g k is j = rw is (from_paths (insert e s) q (joined_telling s e p q f g (by_paths s p k) j))

-- an edge that leads to no role makes no more
pub aside_tells : (s t : Edges) (e : Edge) (p : RolePaths) → all_edges s ≡ true → is_edge e ≡ true → is_role e.to ≡ false → Tells s p → t ≡ insert e s → Tells t p
aside_tells s t e p f g n k is = joined_tells s t e p p f g k is (λ v r. by (has_role (onward p v) e.from) (onward p v))
  where
    none : onward p e.to ≡ 0
    none = rw n refl

    by : (b : Bool) (w : ℕ) → w ≡ cond b (bit_or w (onward p e.to)) w
    by true w = sym (ap (bit_or w) none ∙ or_zero_r w)
    by false w = refl

-- An edge is taken out: a path goes on without it, or goes through it
module _ (s : Edges) (e : Edge) (p : RolePaths) (f : all_edges (delete e s) ≡ true) (g : is_edge e ≡ true) where
  without : {v x : ℕ} → Reach s v x → Reach (delete e s) v x ⊎ (Reach (delete e s) v e.from × Reach (delete e s) e.to x)
  without y = reach_split e left y
    where
      left : (y : Edge) → y ∈ s → (e ≡ y) ⊎ (y ∈ delete e s)
      left y h = by (same e y) refl
        where
          by : (b : Bool) → same e y ≡ b → (e ≡ y) ⊎ (y ∈ delete e s)
          by true q = inl (same_equal e y q)
          by false q = inr (delete_else e s y q ∙ h)

  -- if it leads to no role, then no path between roles goes through it
  apart_telling : is_role e.to ≡ false → Telling s p → Telling (delete e s) p
  apart_telling n t v r x o = (
    λ h. ⊎_elim (λ z. z) (λ (a, b). absurd (both_ways (is_role e.to) n (ends_at_role (delete e s) e f g x o b))) (without ((t v r x o).0 h)),
    λ y. (t v r x o).1 (reach_mono (delete_old e s) y),
  )

  -- nor does one from a role that did not reach its beginning
  renewed_telling : (q : RolePaths) → Telling s p → Renewed (delete e s) e.from p 128 q → Telling (delete e s) q
  renewed_telling q t i v r = by (has_role (onward p v) e.from) refl
    where
      by : (b : Bool) → has_role (onward p v) e.from ≡ b → ReachesRoles (delete e s) v (onward q v)
      by true h = let l : v < 128 = grind (arith, nat_tests) in (i v r).0 h l
      by false h = subst (ReachesRoles (delete e s) v) (sym ((i v r).1 (inl h))) old
        where
          through : {x : ℕ} → Reach (delete e s) v e.from × Reach (delete e s) e.to x → ⊥
          through (a, b) =
              let m = begins_at_role (delete e s) e f g v r a in
              both_ways (has_role (onward p v) e.from) h ((t v r e.from m).1 (reach_mono (delete_old e s) a))

          old : ReachesRoles (delete e s) v (onward p v)
          old x o =
              (λ k. ⊎_elim (λ z. z) (λ z. absurd (through z)) (without ((t v r x o).0 k)), λ y. (t v r x o).1 (reach_mono (delete_old e s) y))

pub apart_tells : (s t : Edges) (e : Edge) (p : RolePaths) → all_edges t ≡ true → is_edge e ≡ true
    → is_role e.to ≡ false → Tells s p → t ≡ delete e s → Tells t p
apart_tells s t e p f g n k is =
    subst (λ (u : Edges). Tells u p) (sym is)
    (from_paths (delete e s) p (apart_telling s e p (subst (λ (u : Edges). all_edges u ≡ true) is f) g n (by_paths s p k)))

pub renewed_tells : (s t : Edges) (e : Edge) (p q : RolePaths) → all_edges t ≡ true → is_edge e ≡ true
    → Renewed t e.from p 128 q → Tells s p → t ≡ delete e s → Tells t q
renewed_tells s t e p q f g i k is =
    subst (λ (u : Edges). Tells u q) (sym is)
    (from_paths (delete e s) q
    (renewed_telling s e p (subst (λ (u : Edges). all_edges u ≡ true) is f) g q (by_paths s p k) (subst (λ (u : Edges). Renewed u e.from p 128 q) is i)))

-- From several roles: those of w that are done, and what was found behind them.
pub record Gathering (p : RolePaths) (w found done : ℕ) : Type 0 where
  pub word : done < 2 ^ 64
  pub sound : (x : ℕ) → has_role found x ≡ true → (v : ℕ) × (has_role w v ≡ true) × (has_role (onward p v) x ≡ true)
  pub whole : (v x : ℕ) → has_role done v ≡ true → has_role (onward p v) x ≡ true → has_role found x ≡ true

pub gathers_none : (p : RolePaths) (w : ℕ) → Gathering p w 0 0
gathers_none p w = record {
  word = omega arith;
  sound = λ x h. absurd (both_ways (has_role 0 x) (has_none x) h);
  whole = λ v x h k. absurd (both_ways (has_role 0 v) (has_none v) h);
}

pub gathers_more : {p : RolePaths} {w found done : ℕ} → Gathering p w found done → (v : ℕ) → is_beyond w done v ≡ true
    → Gathering p w (bit_or found (onward p v)) (bit_or done (role_word v))
gathers_more {p} {w} {found} {done} g v h = record {
  word = still_word done v g.word role;
  sound = λ x k. ⊎_elim (g.sound x) (λ a. (v, in_w, a)) (or_cases _ _ (sym (has_or found (onward p v) x) ∙ k));
  whole = λ u x k a.
      ⊎_elim (λ (c : has_role done u ≡ true). or_has_left found (onward p v) x (g.whole u x c a))
      (λ q. or_has_right found (onward p v) x (subst (λ (n : ℕ). has_role (onward p n) x ≡ true) (eqb-true u v q) a))
      (or_cases _ _ (sym (has_with done v u role) ∙ k));
}
  where
    in_w : has_role w v ≡ true
    in_w = (and_parts (has_role w v) (not (has_role done v)) h).0

    role : is_role v ≡ true
    role = a_role w v in_w

pub gathers_all : (s : Edges) (p : RolePaths) {w found done : ℕ} → Gathering p w found done → ((v : ℕ) → is_beyond w done v ≡ false)
    → Tells s p → Closure s w found
gathers_all s p {w} {found} {done} g n k x o = (to, from)
  where
    t : Telling s p
    t = by_paths s p k

    to : has_role found x ≡ true → FromRoles s w x
    to h = let y = g.sound x h in (y.0, y.1, (t y.0 (a_role w y.0 y.1) x o).0 y.2)

    done_all : (u : ℕ) → has_role w u ≡ true → has_role done u ≡ true
    done_all u h = true_from_ne_false (has_role done u) (λ k. both_ways (is_beyond w done u) (n u) (and_from (has_role w u) _ h (not_from_false (has_role done u) k)))

    from : FromRoles s w x → has_role found x ≡ true
    from y = g.whole y.0 x (done_all y.0 y.1) ((t y.0 (a_role w y.0 y.1) x o).1 y.2)

-- Written down role by role: role m is done next
module _ (p q : RolePaths) (m w : ℕ) (d : (v : ℕ) → is_role v ≡ true → onward q v ≡ cond (eqb m v) w (onward p v)) where
  here_set : (v : ℕ) → is_role v ≡ true → eqb m v ≡ true → onward q v ≡ w
  here_set v r h = d v r ∙ rw h refl

  else_set : (v : ℕ) → is_role v ≡ true → eqb m v ≡ false → onward q v ≡ onward p v
  else_set v r h = d v r ∙ rw h refl

  pub next_joined : (f g : ℕ → ℕ) → w ≡ f m → ((v : ℕ) → is_role v ≡ true → onward p v ≡ cond (nat_lt v m) (f v) (g v))
      → (v : ℕ) → is_role v ≡ true → onward q v ≡ cond (nat_lt v (m + 1)) (f v) (g v)
  next_joined f g is i v r = by (eqb m v) refl
    where
      by : (b : Bool) → eqb m v ≡ b → onward q v ≡ cond (nat_lt v (m + 1)) (f v) (g v)
      by true h =
          let l : nat_lt v (m + 1) ≡ true = grind (arith, nat_tests) in
          here_set v r h ∙ is ∙ ap f (eqb-true m v h) ∙ rw l refl
      by false h =
          let l : nat_lt v m ≡ nat_lt v (m + 1) = grind (arith, nat_tests) in
          else_set v r h ∙ i v r ∙ ap (λ (b : Bool). cond b (f v) (g v)) l

  -- what holds of each role before it, and of this one, holds of each before the next
  pub next_holds : (P : ℕ → ℕ → Type 0) → P m w → ((v : ℕ) → is_role v ≡ true → v < m → P v (onward p v))
      → (v : ℕ) → is_role v ≡ true → v < m + 1 → P v (onward q v)
  next_holds P c i v r l = by (eqb m v) refl
    where
      by : (b : Bool) → eqb m v ≡ b → P v (onward q v)
      by true h = subst (λ (n : ℕ). P v n) (sym (here_set v r h)) (subst (λ (n : ℕ). P n w) (eqb-true m v h) c)
      by false h =
          let k : v < m = grind (arith, nat_tests) in
          subst (λ (n : ℕ). P v n) (sym (else_set v r h)) (i v r k)

  -- a role is searched from anew if it reached the vertex
  pub renews_more : (o : RolePaths) (t : Edges) (from : ℕ) → (has_role (onward p m) from ≡ true → ReachesRoles t m w)
      → (has_role (onward p m) from ≡ false → w ≡ onward p m) → Renewed t from o m p → Renewed t from o (m + 1) q
  renews_more o t from new old i v r = by (eqb m v) refl
    where
      by : (b : Bool) → eqb m v ≡ b → (has_role (onward o v) from ≡ true → v < m + 1 → ReachesRoles t v (onward q v))
          × ((has_role (onward o v) from ≡ false) ⊎ (m + 1 ≤ v) → onward q v ≡ onward o v)
      by true h = (
        λ k l. subst (λ (n : ℕ). ReachesRoles t v n) (sym (here_set v r h)) (subst (λ (n : ℕ). ReachesRoles t n w) e (new (before true k))),
        λ z. here_set v r h ∙ ⊎_elim (λ n. old (before false n) ∙ was) (λ (l : m + 1 ≤ v). absurd (omega (arith, e))) z,
      )
        where
          e : m ≡ v
          e = eqb-true m v h

          was : onward p m ≡ onward o v
          was = let l : m ≤ v = omega (arith, e) in ap (onward p) e ∙ (i v r).1 (inr l)

          before : (b : Bool) → has_role (onward o v) from ≡ b → has_role (onward p m) from ≡ b
          before b k = subst (λ (n : ℕ). has_role n from ≡ b) (sym was) k
      by false h = (
        λ k l. let z : v < m = grind (arith, nat_tests) in subst (ReachesRoles t v) (sym (else_set v r h)) ((i v r).0 k z),
        λ z. else_set v r h ∙ (i v r).1 (⊎_elim (λ n. inl n) (λ (l : m + 1 ≤ v). inr (omega arith)) z),
      )

-- before the first role
pub renews_first : (o : RolePaths) (t : Edges) (from : ℕ) → Renewed t from o 64 o
renews_first o t from v r = (λ h l. absurd (grind (arith, nat_tests)), λ z. refl)

-- without edges
pub alone_tells : (p : RolePaths) → ((v : ℕ) → is_role v ≡ true → onward p v ≡ bit_or 0 (role_word v)) → Tells [] p
alone_tells p h v x r o = ap (λ (n : ℕ). has_role n x) (h v r) ∙ has_with 0 v x r ∙ by (has_role 0 x) (has_none x)
  where
    by : (b : Bool) → b ≡ false → (b || eqb x v) ≡ eqb v x
    by b z = grind (arith, nat_tests)
