-- The search through the roles finds what is reached, and nothing else.
use Rattle.std.proofs.Common.{◌≡◌, ◌≢◌, ℕ, zero, suc, ◌+◌, ◌-◌, ◌^◌, ◌<◌, ◌≤◌, Bool, true, false, not, ◌&&◌, eqb, ◌⊎◌, get_or, bit_or, sym, refl, ap, ◌∙◌, subst, inl, inr, ⊎_elim, arith}
use Rattle.std.specs.List.{list_any, range_with_len}
use Rattle.std.proofs.lemmas.List.Folds.{list_any_at}
use Rattle.std.proofs.lemmas.List.FromFn.{length-range_with_len, get_or-range_with_len}
use Rattle.std.proofs.lemmas.Nat.{le_or_l, or_lt, pow_below}
use Rattle.std.proofs.lemmas.Bool.{false≢true, both_ways, not-true, not_from_false, true_from_ne_false, false_from_ne_true, and_parts, and_from, or_cases, or_left, or_right, eqb-true, eq-eqb}
use Rattle.std.proofs.lemmas.Bool.Decides.{nat_tests, same_from_decides}
use Rattle.edges.specs.Edges.{edge, is_edge, is_role, is_user}
use Rattle.edge_sets.specs.EdgeSets.{Edges, has, all_edges, ◌∈◌}
use Rattle.edge_sets.specs.BitRows.{bit, Row, has_role, role_word, is_beyond}
use Rattle.edge_sets.proofs.Members.{edge_member}
use Rattle.edge_sets.proofs.BitRows.{place_of, has_none, has_one, has_or, has_with, has_row}
use Rattle.graph.specs.Paths.{Reach, here, step, reaches}
use Rattle.graph.proofs.Reaching.{reach_trans, paths_decided}
use Rattle.graph.specs.Searches.{FromRoles, Closure, ReachesRoles, edge_from}

-- On the way there: the roles that were seen, and those of them whose edges were followed.
pub record Searching (s : Edges) (w seen done : ℕ) : Type 0 where
  pub word : done < 2 ^ 64
  pub begun : (v : ℕ) → has_role w v ≡ true → has_role seen v ≡ true
  pub sound : (v : ℕ) → has_role seen v ≡ true → FromRoles s w v
  pub followed : (v x : ℕ) → is_role x ≡ true → has_role done v ≡ true → edge v x ∈ s → has_role seen x ≡ true

pub a_role : (w v : ℕ) → has_role w v ≡ true → is_role v ≡ true
a_role w v h = (and_parts (is_role v) (bit w (v - 64)) h).0

pub or_has_left : (a b v : ℕ) → has_role a v ≡ true → has_role (bit_or a b) v ≡ true
or_has_left a b v h = has_or a b v ∙ or_left (has_role a v) (has_role b v) h

pub or_has_right : (a b v : ℕ) → has_role b v ≡ true → has_role (bit_or a b) v ≡ true
or_has_right a b v h = has_or a b v ∙ or_right (has_role a v) (has_role b v) h

-- the search begins
pub search_begins : (s : Edges) (w : ℕ) → Searching s w w 0
search_begins s w = record {
  word = omega arith;
  begun = λ v h. h;
  sound = λ v h. (v, h, here);
  followed = λ v x o h e. absurd (both_ways (has_role 0 v) (has_none v) h);
}

-- the more roles are done, the fewer words are left
pub falls : (seen done v : ℕ) → done < 2 ^ 64 → is_beyond seen done v ≡ true → 2 ^ 64 - bit_or done (role_word v) < 2 ^ 64 - done
falls seen done v l h =
    let p = and_parts (has_role seen v) (not (has_role done v)) h in
    let role : is_role v ≡ true = a_role seen v p.0 in
    let n : done ≢ bit_or done (role_word v) =
    λ q. both_ways (has_role done v) (not-true (has_role done v) p.1) (ap (λ (m : ℕ). has_role m v) q ∙ has_with done v v role ∙ or_right (has_role done v) _ (eq-eqb v v refl)) in
    omega (arith, l, le_or_l done (role_word v), n)

-- one role more is done
pub still_word : (done v : ℕ) → done < 2 ^ 64 → is_role v ≡ true → bit_or done (role_word v) < 2 ^ 64
still_word done v l r = let p : role_word v < 2 ^ 64 = rw r (pow_below (v - 64) 64 (place_of v r).0) in or_lt 64 done (role_word v) l p

-- the edges of a role that was seen are followed
module _ {s : Edges} {w seen done : ℕ} (x : Searching s w seen done) (v : ℕ) (h : is_beyond seen done v ≡ true) where
  was_seen : has_role seen v ≡ true
  was_seen = (and_parts (has_role seen v) (not (has_role done v)) h).0

  role : is_role v ≡ true
  role = a_role seen v was_seen

  pub search_goes_on : (row : ℕ) → Row s v row → Searching s w (bit_or seen row) (bit_or done (role_word v))
  search_goes_on row r = record {
    word = still_word done v x.word role;
    begun = λ y b. or_has_left seen row y (x.begun y b);
    sound = λ y b. ⊎_elim (x.sound y) (further y) (or_cases (has_role seen y) (has_role row y) (sym (has_or seen row y) ∙ b));
    followed = λ u y o b e.
        ⊎_elim (λ (c : has_role done u ≡ true). or_has_left seen row y (x.followed u y o c e))
        (λ (q : eqb u v ≡ true). or_has_right seen row y (has_row s v row r y o ∙ subst (λ (i : ℕ). edge i y ∈ s) (eqb-true u v q) e))
        (or_cases (has_role done u) (eqb u v) (sym (has_with done v u role) ∙ b));
  }
    where
      further : (y : ℕ) → has_role row y ≡ true → FromRoles s w y
      further y c =
          let z = x.sound v was_seen in
          (z.0, z.1, reach_trans z.2 (step (sym (has_row s v row r y (a_role row y c)) ∙ c) here))

  pub search_falls : 2 ^ 64 - bit_or done (role_word v) < 2 ^ 64 - done
  search_falls = falls seen done v x.word h

-- from a role an edge goes to a role or to a privilege, and nothing leaves a privilege
pub role_step : (s : Edges) → all_edges s ≡ true → (x y : ℕ) → edge x y ∈ s → (x < 128) × (64 ≤ y)
role_step s f x y h = let e : is_edge (edge x y) ≡ true = edge_member (edge x y) s f h in (grind (arith, nat_tests), grind (arith, nat_tests))

-- a path to a role goes through roles
pub to_role : (s : Edges) → all_edges s ≡ true → {x z : ℕ} → Reach s x z → z < 128 → x < 128
to_role s f here l = l
to_role s f (step {x = x} {y = y} e p) l = (role_step s f x y e).0

between : (s : Edges) → all_edges s ≡ true → (x y z : ℕ) → edge x y ∈ s → Reach s y z → is_role z ≡ true → is_role y ≡ true
between s f x y z e p o =
    let z_low : z < 128 = grind (arith, nat_tests) in
    let low : y < 128 = to_role s f p z_low in
    let high : 64 ≤ y = (role_step s f x y e).1 in
    grind (arith, nat_tests)

-- so what was seen, once all of it was followed, is closed
closed : (s : Edges) → all_edges s ≡ true → {w r d : ℕ} → Searching s w r d → ((v : ℕ) → has_role r v ≡ true → has_role d v ≡ true)
    → {x z : ℕ} → Reach s x z → is_role z ≡ true → has_role r x ≡ true → has_role r z ≡ true
closed s f c all here o b = b
closed s f c all (step {x = x} {y = y} {z = z} e t) o b = closed s f c all t o (c.followed x y (between s f x y z e t o) (all x b) e)

pub search_ends : (s : Edges) → all_edges s ≡ true → {w seen done : ℕ} → Searching s w seen done → ((v : ℕ) → is_beyond seen done v ≡ false) → Closure s w seen
search_ends s f {w} {seen} {done} x n v o = (x.sound v, λ y. closed s f x all y.2 o (x.begun y.0 y.1))
  where
    all : (u : ℕ) → has_role seen u ≡ true → has_role done u ≡ true
    all u h = true_from_ne_false (has_role done u) (λ k. both_ways (is_beyond seen done u) (n u) (and_from (has_role seen u) _ h (not_from_false (has_role done u) k)))

-- from a role
pub from_role : (s : Edges) (v r : ℕ) → is_role v ≡ true → Closure s (role_word v) r → ReachesRoles s v r
from_role s v r h c x o = (to, λ p. (c x o).1 (v, has_one v v h ∙ eq-eqb v v refl, p))
  where
    to : has_role r x ≡ true → Reach s v x
    to b = let y = (c x o).0 b in subst (λ (n : ℕ). Reach s n x) (eqb-true y.0 v (sym (has_one v y.0 h) ∙ y.1)) y.2

-- from any other vertex
by_role : (s : Edges) → all_edges s ≡ true → {v x : ℕ} → Reach s v x → is_role v ≡ false → is_role x ≡ true → (y : ℕ) × (is_role y ≡ true) × (edge v y ∈ s) × Reach s y x
by_role s f (here {x = x}) h o = absurd (both_ways (is_role x) h o)
by_role s f (step {x = v} {y = y} {z = x} e t) h o = (y, between s f v y x e t o, e, t)

pub from_other : (s : Edges) (v w r : ℕ) → all_edges s ≡ true → is_role v ≡ false → Row s v w → Closure s w r → ReachesRoles s v r
from_other s v w r f h row c x o = (to, from)
  where
    to : has_role r x ≡ true → Reach s v x
    to b = let y = (c x o).0 b in step (sym (has_row s v w row y.0 (a_role w y.0 y.1)) ∙ y.1) y.2

    from : Reach s v x → has_role r x ≡ true
    from p = let y = by_role s f p h o in (c x o).1 (y.0, has_row s v w row y.0 y.1 ∙ y.2, y.3)

-- Whether a vertex is reached
pub reaches_itself : (s : Edges) (a b : ℕ) → a ≡ b → true ≡ reaches s a b
reaches_itself s a b q = sym ((paths_decided s a b).1 (subst (λ (n : ℕ). Reach s a n) q here))

pub reaches_role : (s : Edges) (a b r : ℕ) → is_role b ≡ true → ReachesRoles s a r → has_role r b ≡ reaches s a b
reaches_role s a b r h c = same_from_decides (has_role r b) (reaches s a b) (c b h) (paths_decided s a b)

-- the last edge of a path to anything but a role leaves a role
pub last_edge : (s : Edges) {a b : ℕ} → Reach s a b → (a ≡ b) ⊎ ((x : ℕ) × Reach s a x × (edge x b ∈ s))
last_edge s here = inl refl
last_edge s (step {x = x} {z = z} e p) =
    ⊎_elim (λ q. inr (x, here, subst (λ (n : ℕ). edge x n ∈ s) q e)) (λ y. inr (y.0, step e y.1, y.2)) (last_edge s p)

-- no edge goes to a user
pub reaches_user : (s : Edges) (a b : ℕ) → all_edges s ≡ true → a ≢ b → is_user b ≡ true → false ≡ reaches s a b
reaches_user s a b f n u = sym (false_from_ne_true (reaches s a b) (λ h. ⊎_elim n into (last_edge s ((paths_decided s a b).0 h))))
  where
    into : (x : ℕ) × Reach s a x × (edge x b ∈ s) → ⊥
    into (x, q, e) = let l : 64 ≤ b = (role_step s f x b e).1 in let o : b < 64 = grind (arith, nat_tests) in omega (arith, l, o)

pub leaves_role : (s : Edges) → all_edges s ≡ true → (x b : ℕ) → is_role b ≡ false → edge x b ∈ s → (64 ≤ x) × (x < 128)
leaves_role s f x b h e = let i : is_edge (edge x b) ≡ true = edge_member (edge x b) s f e in (grind (arith, nat_tests), grind (arith, nat_tests))

-- a number of a range that passes a test
some_in : (p : ℕ → Bool) (a n : ℕ) → list_any p (range_with_len a n) ≡ true → (v : ℕ) × (p v ≡ true)
some_in p a zero h = absurd (false≢true h)
some_in p a (suc n) h = ⊎_elim (λ q. (a, q)) (some_in p (a + 1) n) (or_cases (p a) (list_any p (range_with_len (a + 1) n)) h)

in_some : (p : ℕ → Bool) (a n v : ℕ) → a ≤ v → v < a + n → p v ≡ true → list_any p (range_with_len a n) ≡ true
in_some p a n v l m h =
    let e : get_or (range_with_len a n) (v - a) 0 ≡ v = get_or-range_with_len a n (v - a) 0 (omega arith) ∙ omega arith in
    list_any_at p (range_with_len a n) (v - a) 0 (omega (arith, length-range_with_len a n)) (ap p e ∙ h)

-- The search for an edge to a vertex: none of the roles that were asked has one.
pub record Asking (s : Edges) (to asked : ℕ) : Type 0 where
  pub word : asked < 2 ^ 64
  pub none : (v : ℕ) → has_role asked v ≡ true → has s (edge v to) ≡ false

pub asking_begins : (s : Edges) (to : ℕ) → Asking s to 0
asking_begins s to = record { word = omega arith; none = λ v h. absurd (both_ways (has_role 0 v) (has_none v) h) }

-- a role of w that was not asked yet
beyond_role : (w asked v : ℕ) → is_beyond w asked v ≡ true → has_role w v ≡ true
beyond_role w asked v h = (and_parts (has_role w v) (not (has_role asked v)) h).0

pub asking_goes_on : (s : Edges) (to w asked v : ℕ) → Asking s to asked → is_beyond w asked v ≡ true → has s (edge v to) ≡ false → Asking s to (bit_or asked (role_word v))
asking_goes_on s to w asked v x h n =
    let role : is_role v ≡ true = a_role w v (beyond_role w asked v h) in
    record {
      word = still_word asked v x.word role;
      none = λ u b.
          ⊎_elim (x.none u) (λ (q : eqb u v ≡ true). subst (λ (i : ℕ). has s (edge i to) ≡ false) (sym (eqb-true u v q)) n)
          (or_cases (has_role asked u) (eqb u v) (sym (has_with asked v u role) ∙ b));
    }

pub asking_finds : (s : Edges) (to w asked v : ℕ) → is_beyond w asked v ≡ true → has s (edge v to) ≡ true → true ≡ edge_from s w to
asking_finds s to w asked v h e =
    let b : has_role w v ≡ true = beyond_role w asked v h in
    let o : is_role v ≡ true = a_role w v b in
    let low : 64 ≤ v = grind (arith, nat_tests) in
    let high : v < 128 = grind (arith, nat_tests) in
    sym (in_some (λ (x : ℕ). has_role w x && has s (edge x to)) 64 64 v low high (and_from (has_role w v) _ b e))

pub asking_ends : (s : Edges) (to w asked : ℕ) → Asking s to asked → ((v : ℕ) → is_beyond w asked v ≡ false) → false ≡ edge_from s w to
asking_ends s to w asked x n = sym (false_from_ne_true (edge_from s w to) nowhere)
  where
    all : (v : ℕ) → has_role w v ≡ true → has_role asked v ≡ true
    all v h = true_from_ne_false (has_role asked v) (λ k. both_ways (is_beyond w asked v) (n v) (and_from (has_role w v) _ h (not_from_false (has_role asked v) k)))

    nowhere : edge_from s w to ≡ true → ⊥
    nowhere q =
        let y = some_in (λ (v : ℕ). has_role w v && has s (edge v to)) 64 64 q in
        let z = and_parts (has_role w y.0) (has s (edge y.0 to)) y.1 in
        both_ways (has s (edge y.0 to)) (x.none y.0 (all y.0 z.0)) z.1

pub reaches_other : (s : Edges) (a b r : ℕ) → all_edges s ≡ true → a ≢ b → is_role b ≡ false → ReachesRoles s a r → edge_from s r b ≡ reaches s a b
reaches_other s a b r f n h c = same_from_decides (edge_from s r b) (reaches s a b) (there, back) (paths_decided s a b)
  where
    there : edge_from s r b ≡ true → Reach s a b
    there q =
        let y = some_in (λ (v : ℕ). has_role r v && has s (edge v b)) 64 64 q in
        let z = and_parts (has_role r y.0) (has s (edge y.0 b)) y.1 in
        reach_trans ((c y.0 (a_role r y.0 z.0)).0 z.0) (step z.1 here)

    back : Reach s a b → edge_from s r b ≡ true
    back p = ⊎_elim (λ q. absurd (n q)) found (last_edge s p)
      where
        found : (x : ℕ) × Reach s a x × (edge x b ∈ s) → edge_from s r b ≡ true
        found (x, q, e) =
            let l = leaves_role s f x b h e in
            let o : is_role x ≡ true = grind (arith, nat_tests) in
            in_some (λ (v : ℕ). has_role r v && has s (edge v b)) 64 64 x l.0 l.1 (and_from (has_role r x) _ ((c x o).1 q) e)
