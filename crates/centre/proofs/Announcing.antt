-- Going through the edges of the policy, and sending those that rise.
use Rattle.std.proofs.Common.{◌≡◌, ℕ, zero, suc, ◌+◌, ◌-◌, ◌<◌, ◌≤◌, Bool, true, false, cond, not, ◌&&◌, ◌||◌, List, [], ◌∷◌, ◌++◌, map, length, get_or, take, filter, sym, refl, ap, ◌∙◌, subst, arith}
use Rattle.std.proofs.Math.Bool.{or_assoc, or-false}
use Rattle.std.proofs.Math.Seq.{take-length}
use Rattle.std.proofs.lemmas.Bool.{false≢true, or_left, or_right}
use Rattle.std.proofs.lemmas.List.{take_more}
use Rattle.std.proofs.lemmas.List.Elements.{filter_more}
use Rattle.edges.specs.declared.edges.Edge.{Edge}
use Rattle.edges.specs.declared.edges.Change.{Change}
use Rattle.edges.specs.declared.edges.Change.TheVariants.{Add}
use Rattle.edges.specs.Edges.{same}
use Rattle.edge_sets.specs.EdgeSets.{Edges, Ascending, no_edge, has, ◌∉◌}
use Rattle.edge_sets.proofs.Order.{same_refl, same_equal}
use Rattle.edge_sets.proofs.Ascents.{asc_tail, asc_first}
use Rattle.edge_sets.proofs.Order.{before_differs}
use Rattle.vaults.specs.Sites.{Site, send_to}
use Rattle.policy.specs.declared.vault_set.VaultSet.{VaultSet}
use Rattle.policy.specs.declared.addition.Addition.{Addition}
use Rattle.policy.specs.VaultSets.{has_vault}
use Rattle.policy.specs.Ledgers.{is_told}
use Rattle.policy.specs.Additions.{rises}
use Rattle.centre.specs.Worked.{AlteredBy, sent_all, sent_to}
use Rattle.centre.specs.Holding.{Held}
use Rattle.centre.specs.Sendings.{batch_of, SameRest, Announced}

-- Sites altered twice, and in another wording

pub altered_twice : (f g : ℕ → Site → Site) (xs ys zs : List Site) → AlteredBy f xs ys → AlteredBy g ys zs → AlteredBy (λ k x. g k (f k x)) xs zs
altered_twice f g xs ys zs a b = record {
  as_many = b.as_many ∙ a.as_many;
  each = λ k l. b.each k (let q = a.as_many in omega arith) ∙ ap (g k) (a.each k l);
}

pub altered_alike : (f g : ℕ → Site → Site) (xs ys : List Site) → ((k : ℕ) (x : Site) → f k x ≡ g k x) → AlteredBy f xs ys → AlteredBy g xs ys
altered_alike f g xs ys q a = record { as_many = a.as_many; each = λ k l. a.each k l ∙ q k _ }

pub not_altered : (xs : List Site) → AlteredBy (λ k x. x) xs xs
not_altered xs = record { as_many = refl; each = λ k l. refl }

pub sent_append : (ms ns : List Change) (x : Site) → sent_all (ms ++ ns) x ≡ sent_all ns (sent_all ms x)
sent_append [] ns x = refl
sent_append (m ∷ ms) ns x = sent_append ms ns (send_to m x)

map_append : (s t : Edges) → map Add (s ++ t) ≡ map Add s ++ map Add t
map_append [] t = refl
map_append (d ∷ s) t = ap (λ (ms : List Change). Add d ∷ ms) (map_append s t)

-- The edges in front of a place

has_append : (s t : Edges) (x : Edge) → has (s ++ t) x ≡ (has s x || has t x)
has_append [] t x = refl
has_append (d ∷ s) t x = ap (λ (b : Bool). same d x || b) (has_append s t x) ∙ sym (or_assoc (same d x) (has s x) (has t x))

module _ (s : Edges) (j : ℕ) (l : j < length s) where
  front_more : (x : Edge) → has (take (j + 1) s) x ≡ (has (take j s) x || same (get_or s j no_edge) x)
  front_more x =
      ap (λ (t : Edges). has t x) (take_more s j no_edge l) ∙ has_append (take j s) (get_or s j no_edge ∷ []) x
      ∙ ap (λ (b : Bool). has (take j s) x || b) (or-false (same (get_or s j no_edge) x))

stands_in : (s : Edges) (j : ℕ) → j < length s → has s (get_or s j no_edge) ≡ true
stands_in [] j l = absurd (omega arith)
stands_in (d ∷ s) zero l = or_left (same d d) (has s d) (same_refl d)
stands_in (d ∷ s) (suc j) l = or_right (same d (get_or s j no_edge)) (has s (get_or s j no_edge)) (stands_in s j (omega arith))

-- none of them is the edge at the place
behind_front : (s : Edges) (j : ℕ) → Ascending s → j < length s → get_or s j no_edge ∉ take j s
behind_front [] j up l = absurd (omega arith)
behind_front (d ∷ s) zero up l = refl
behind_front (d ∷ s) (suc j) up l =
    let m : j < length s = omega arith in
    rw (before_differs d (get_or s j no_edge) (asc_first d s (get_or s j no_edge) up (stands_in s j m))) (behind_front s j (asc_tail d s up) m)

-- an addition that concerns no vault
pub announces_to_nobody : {R : Type 0} (a : Addition) (s : Edges) (h : Held R) → ((k : ℕ) → has_vault a.concerned k ≡ false) → Announced a s h h
announces_to_nobody a s h n = record {
  edges = refl;
  told = λ k y. by y k (is_told h.ledger k y) (has s y) (rises a y) (n k);
  sites = altered_alike (λ k z. z) _ h.sites h.sites (λ k z. ap (λ (b : Bool). sent_all (map Add (cond b (filter (λ x. rises a x && not (is_told h.ledger k x)) s) [])) z) (sym (n k))) (not_altered h.sites);
  rest = record { rule = refl; declared = refl; keeping = refl };
}
  where
    by : (y : Edge) (k : ℕ) (o m r : Bool) → has_vault a.concerned k ≡ false → o ≡ (o || (m && (r && has_vault a.concerned k)))
    by y k o m r q = grind arith

module _ {R : Type 0} (a : Addition) (h x : Held R) where
  pub announces_nothing : Announced a [] h h
  announces_nothing = record {
    edges = refl;
    told = λ k y. sym (or-false (is_told h.ledger k y));
    sites = altered_alike (λ k z. z) _ h.sites h.sites (λ k z. by (has_vault a.concerned k) z) (not_altered h.sites);
    rest = record { rule = refl; declared = refl; keeping = refl };
  }
    where
      by : (b : Bool) (z : Site) → z ≡ sent_all (map Add (cond b [] [])) z
      by true z = refl
      by false z = refl

  module _ (s : Edges) (j : ℕ) (l : j < length s) (so_far : Announced a (take j s) h x) where
    -- what vault k is sent of one edge more
    batch_more : (k : ℕ) → batch_of a h.ledger (take (j + 1) s) k
        ≡ batch_of a h.ledger (take j s) k ++ cond (rises a (get_or s j no_edge) && (has_vault a.concerned k && not (is_told h.ledger k (get_or s j no_edge)))) (get_or s j no_edge ∷ []) []
    batch_more k = by (has_vault a.concerned k)
      where
        p : Edge → Bool
        p z = rises a z && not (is_told h.ledger k z)

        none : (t : Bool) → [] ≡ cond {A = Edges} (t && false) (get_or s j no_edge ∷ []) []
        none true = refl
        none false = refl

        by : (c : Bool) → cond c (filter (λ z. rises a z && not (is_told h.ledger k z)) (take (j + 1) s)) []
            ≡ cond c (filter (λ z. rises a z && not (is_told h.ledger k z)) (take j s)) []
            ++ cond (rises a (get_or s j no_edge) && (c && not (is_told h.ledger k (get_or s j no_edge)))) (get_or s j no_edge ∷ []) []
        by true = filter_more (λ z. rises a z && not (is_told h.ledger k z)) s j no_edge l
        by false = none (rises a (get_or s j no_edge))

    append_none : (t : Edges) → t ++ [] ≡ t
    append_none [] = refl
    append_none (d ∷ t) = ap (λ (u : Edges). d ∷ u) (append_none t)

    -- an edge that does not rise is passed by
    pub announces_not : rises a (get_or s j no_edge) ≡ false → Announced a (take (j + 1) s) h x
    announces_not q = record {
      edges = so_far.edges;
      told = λ k y. so_far.told k y ∙ ap (λ (b : Bool). is_told h.ledger k y || b) (passed y (has_vault a.concerned k));
      sites = altered_alike _ _ h.sites x.sites (λ k z. ap (λ (t : Edges). sent_all (map Add t) z) (sym (same_batch k))) so_far.sites;
      rest = so_far.rest;
    }
      where
        same_batch : (k : ℕ) → batch_of a h.ledger (take (j + 1) s) k ≡ batch_of a h.ledger (take j s) k
        same_batch k =
            batch_more k
            ∙ ap (λ (b : Bool). batch_of a h.ledger (take j s) k ++ cond (b && (has_vault a.concerned k && not (is_told h.ledger k (get_or s j no_edge)))) (get_or s j no_edge ∷ []) []) q
            ∙ append_none (batch_of a h.ledger (take j s) k)

        by : (y : Edge) (b c t u : Bool) → same (get_or s j no_edge) y ≡ t → rises a y ≡ u → (b && (u && c)) ≡ ((b || t) && (u && c))
        by y b c true true r i = absurd (false≢true (sym q ∙ ap (rises a) (same_equal (get_or s j no_edge) y r) ∙ i))
        by y true c true false r i = refl
        by y false c true false r i = refl
        by y true c false u r i = refl
        by y false c false u r i = refl

        passed : (y : Edge) (c : Bool) → (has (take j s) y && (rises a y && c)) ≡ (has (take (j + 1) s) y && (rises a y && c))
        passed y c =
            by y (has (take j s) y) c (same (get_or s j no_edge) y) (rises a y) refl refl
            ∙ ap (λ (b : Bool). b && (rises a y && c)) (sym (front_more s j l y))

    -- one that rises is sent to those who are not told of it, and they are noted as told
    module _ (up : Ascending s) (rise : rises a (get_or s j no_edge) ≡ true) (z : Held R) (newly : VaultSet)
        (news : (k : ℕ) → has_vault newly k ≡ (has_vault a.concerned k && not (is_told x.ledger k (get_or s j no_edge))))
        (edges : z.ledger.edges ≡ x.ledger.edges)
        (told : (k : ℕ) (y : Edge) → is_told z.ledger k y ≡ (is_told x.ledger k y || (same (get_or s j no_edge) y && has_vault a.concerned k)))
        (sites : AlteredBy (sent_to newly (Add (get_or s j no_edge))) x.sites z.sites)
        (rest : SameRest x z) where
      -- that they were not told so far
      new_before : (k : ℕ) → is_told x.ledger k (get_or s j no_edge) ≡ is_told h.ledger k (get_or s j no_edge)
      new_before k =
          so_far.told k (get_or s j no_edge)
          ∙ ap (λ (b : Bool). is_told h.ledger k (get_or s j no_edge) || (b && (rises a (get_or s j no_edge) && has_vault a.concerned k))) (behind_front s j up l)
          ∙ or-false _

      news_here : (k : ℕ) → has_vault newly k ≡ (rises a (get_or s j no_edge) && (has_vault a.concerned k && not (is_told h.ledger k (get_or s j no_edge))))
      news_here k = news k ∙ rw (new_before k, rise) refl

      sent_here : (k : ℕ) (w : Site) → sent_to newly (Add (get_or s j no_edge)) k (sent_all (map Add (batch_of a h.ledger (take j s) k)) w)
          ≡ sent_all (map Add (batch_of a h.ledger (take (j + 1) s) k)) w
      sent_here k w =
          sym (ap (λ (t : Edges). sent_all (map Add t) w) (batch_more k)
          ∙ ap (λ (ms : List Change). sent_all ms w) (map_append (batch_of a h.ledger (take j s) k) _)
          ∙ sent_append (map Add (batch_of a h.ledger (take j s) k)) _ w
          ∙ ap (λ (b : Bool). sent_all (map Add (cond b (get_or s j no_edge ∷ []) [])) (sent_all (map Add (batch_of a h.ledger (take j s) k)) w)) (sym (news_here k))
          ∙ by (has_vault newly k) (sent_all (map Add (batch_of a h.ledger (take j s) k)) w))
        where
          by : (b : Bool) (v : Site) → sent_all (map Add (cond b (get_or s j no_edge ∷ []) [])) v ≡ cond b (send_to (Add (get_or s j no_edge)) v) v
          by true v = refl
          by false v = refl

      pub announces_one : Announced a (take (j + 1) s) h z
      announces_one = record {
        edges = edges ∙ so_far.edges;
        told = λ k y.
            told k y ∙ ap (λ (b : Bool). b || (same (get_or s j no_edge) y && has_vault a.concerned k)) (so_far.told k y)
            ∙ by y (is_told h.ledger k y) (has (take j s) y) (has_vault a.concerned k) (same (get_or s j no_edge) y) (rises a y) refl refl
            ∙ ap (λ (b : Bool). is_told h.ledger k y || (b && (rises a y && has_vault a.concerned k))) (sym (front_more s j l y));
        sites = altered_alike _ _ h.sites z.sites sent_here (altered_twice _ (sent_to newly (Add (get_or s j no_edge))) h.sites x.sites z.sites so_far.sites sites);
        rest = record { rule = rest.rule ∙ so_far.rest.rule; declared = rest.declared ∙ so_far.rest.declared; keeping = rest.keeping ∙ so_far.rest.keeping };
      }
        where
          by : (y : Edge) (o b c t u : Bool) → same (get_or s j no_edge) y ≡ t → rises a y ≡ u → ((o || (b && (u && c))) || (t && c)) ≡ (o || ((b || t) && (u && c)))
          by y true b c t u r i = refl
          by y false b c true false r i = absurd (false≢true (sym i ∙ ap (rises a) (sym (same_equal (get_or s j no_edge) y r)) ∙ rise))
          by y false true true true true r i = refl
          by y false true false true true r i = refl
          by y false false c true true r i = refl
          by y false true c false true r i = or-false c
          by y false true c false false r i = refl
          by y false false c false u r i = refl

-- edges that do not rise are passed by, d of them from place j on
module _ {R : Type 0} (a : Addition) (s : Edges) (h x : Held R) where
  pub announces_past : (j d : ℕ) → j + d ≤ length s → ((i : ℕ) → j ≤ i → i < j + d → rises a (get_or s i no_edge) ≡ false) → Announced a (take j s) h x → Announced a (take (j + d) s) h x
  announces_past j zero l q so_far = let e : j ≡ j + 0 = omega arith in subst (λ (i : ℕ). Announced a (take i s) h x) e so_far
  announces_past j (suc d) l q so_far =
      let m : j + d < length s = omega arith in
      let n : j ≤ j + d = omega arith in
      let o : j + d < j + suc d = omega arith in
      let e : j + d + 1 ≡ j + suc d = omega arith in
      subst (λ (i : ℕ). Announced a (take i s) h x) e
      (announces_not a h x s (j + d) m (announces_past j d (omega arith) (λ i k r. q i k (omega arith)) so_far) (q (j + d) n o))

  -- up to place k
  pub announces_upto : (j k : ℕ) → j ≤ k → k ≤ length s → ((i : ℕ) → j ≤ i → i < k → rises a (get_or s i no_edge) ≡ false) → Announced a (take j s) h x → Announced a (take k s) h x
  announces_upto j k l m q so_far =
      let e : j + (k - j) ≡ k = omega arith in
      subst (λ (i : ℕ). Announced a (take i s) h x) e (announces_past j (k - j) (omega arith) (λ i n o. q i n (omega arith)) so_far)

-- One turn of the loop: the edge is read off a list that is the policy of the moment
module _ {R : Type 0} (a : Addition) (s : Edges) (j : ℕ) (l : j < length s) (up : Ascending s) (h x z : Held R) (so_far : Announced a (take j s) h x)
    (t : Edges) (is : t ≡ s) where
  pub turn_passes : rises a (get_or t j no_edge) ≡ false → Announced a (take (j + 1) s) h x
  turn_passes q = announces_not a h x s j l so_far (subst (λ (u : Edges). rises a (get_or u j no_edge) ≡ false) is q)

  pub turn_sends : rises a (get_or t j no_edge) ≡ true → (newly : VaultSet)
      → ((k : ℕ) → has_vault newly k ≡ (has_vault a.concerned k && not (is_told x.ledger k (get_or t j no_edge)))) → z.ledger.edges ≡ x.ledger.edges
      → ((k : ℕ) (y : Edge) → is_told z.ledger k y ≡ (is_told x.ledger k y || (same (get_or t j no_edge) y && has_vault a.concerned k)))
      → AlteredBy (sent_to newly (Add (get_or t j no_edge))) x.sites z.sites → SameRest x z → Announced a (take (j + 1) s) h z
  turn_sends rise newly news edges told sites rest =
      announces_one a h x s j l so_far up (subst (λ (u : Edges). rises a (get_or u j no_edge) ≡ true) is rise) z newly
      (λ k. subst (λ (u : Edges). has_vault newly k ≡ (has_vault a.concerned k && not (is_told x.ledger k (get_or u j no_edge)))) is (news k)) edges
      (λ k y. subst (λ (u : Edges). is_told z.ledger k y ≡ (is_told x.ledger k y || (same (get_or u j no_edge) y && has_vault a.concerned k))) is (told k y))
      (subst (λ (u : Edges). AlteredBy (sent_to newly (Add (get_or u j no_edge))) x.sites z.sites) is sites) rest

-- all of them have been gone through
pub announces_all : {R : Type 0} (a : Addition) (s : Edges) (j : ℕ) (h x : Held R) → j ≡ length s → Announced a (take j s) h x → Announced a s h x
announces_all a s j h x q so_far = subst (λ (t : Edges). Announced a t h x) (ap (λ (n : ℕ). take n s) q ∙ take-length s) so_far
