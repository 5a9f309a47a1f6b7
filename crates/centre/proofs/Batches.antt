-- What an addition sends to each vault, by the ledger and by the rules.
use Rattle.std.proofs.Common.{◌≡◌, ℕ, suc, ◌≤◌, Bool, true, false, cond, not, ◌&&◌, ◌||◌, ◌⊎◌, List, [], map, length, filter, inl, inr, sym, refl, ap, ◌∙◌, subst, arith}
use Rattle.std.proofs.lemmas.Bool.{false≢true, and_parts, or_left, or_right}
use Rattle.edges.specs.declared.edges.Edge.{Edge}
use Rattle.edges.specs.declared.edges.Change.{Change}
use Rattle.edges.specs.declared.edges.Change.TheVariants.{Add}
use Rattle.edges.specs.Edges.{same, is_role}
use Rattle.edge_sets.specs.EdgeSets.{Edges, Ascending, has, insert, ◌∈◌, ◌∉◌}
use Rattle.edge_sets.specs.BitRows.{has_role}
use Rattle.edge_sets.proofs.Order.{same_refl}
use Rattle.edge_sets.proofs.Members.{insert_cases}
use Rattle.edge_sets.proofs.Ascents.{ascending_unique}
use Rattle.vaults.specs.Sites.{Site}
use Rattle.graph.specs.Paths.{Subject, reaches}
use Rattle.privileges.specs.Privileges.{Proper, assigns, inherits, permits, administers}
use Rattle.graph.proofs.Vertices.{role_decides}
use Rattle.rules.specs.Sending.{performs, is_due, due, brought}
use Rattle.graph.proofs.Reaching.{paths_decided}
use Rattle.precedence.proofs.Covering.{Sound, ends, stays}
use Rattle.rules.proofs.Messages.{performs_ascending, adds_old, adds_new, adds_cases}
use Rattle.rules.proofs.Deciding.{kept_has}
use Rattle.policy.specs.declared.addition.Addition.{Addition}
use Rattle.policy.specs.VaultSets.{has_vault}
use Rattle.policy.specs.Ledgers.{Ledger, is_told, told_of}
use Rattle.policy.specs.Additions.{rises, due_of, due_number}
use Rattle.centre.specs.Holding.{Held, vault_by}
use Rattle.centre.specs.Room.{About}
use Rattle.centre.specs.Sendings.{batch_of}
use Rattle.policy.proofs.Counts.{filter_agrees}
use Rattle.centre.proofs.Told.{filter_insert, untold, told_has, told_ascending}

-- nothing goes from a privilege to a user or a role
no_way_up : (D : List Change) (s : Edges) → Sound D s → (x y : ℕ) → 128 ≤ x → Subject y → reaches s x y ≡ false
no_way_up D s sound x y l m = by (reaches s x y) refl
  where
    by : (b : Bool) → reaches s x y ≡ b → b ≡ false
    by true q = let e : x ≡ y = stays sound l ((paths_decided s x y).0 q) in absurd (omega arith)
    by false q = refl

-- an edge ends in a role or a privilege
privilege_end : {D : List Change} {x : Edge} → Proper D x → is_role x.to ≡ false → 128 ≤ x.to
privilege_end (assigns a b) q = absurd (false≢true (sym q ∙ (role_decides _).1 b))
privilege_end (inherits a b) q = absurd (false≢true (sym q ∙ (role_decides _).1 b))
privilege_end (permits a b) q = b.0
privilege_end (administers a n) q = omega arith

module _ {R : Type 0} (h : Held R) (e : Edge) (a : Addition) (about : About h e a) (sound : Sound h.declared h.ledger.edges) (proper : Proper h.declared e) where
  -- an edge rises where it is the new one, or leads to where that comes from
  rising : (x : Edge) → Proper h.declared x → rises a x ≡ (same e x || reaches h.ledger.edges x.to e.from)
  rising x p = ap (λ (d : Edge). same d x || has_role a.behind.word x.to) about.edge ∙ ap (λ (b : Bool). same e x || b) (by (is_role x.to) refl)
    where
      by : (b : Bool) → is_role x.to ≡ b → has_role a.behind.word x.to ≡ reaches h.ledger.edges x.to e.from
      by true q = about.behind x.to q
      by false q =
          let r : has_role a.behind.word x.to ≡ false = rw q refl in
          r ∙ sym (no_way_up h.declared h.ledger.edges sound x.to e.from (privilege_end p q) (ends proper).0)

  proper_entered : (x : Edge) → x ∈ insert e h.ledger.edges → Proper h.declared x
  proper_entered x i = by (insert_cases e h.ledger.edges x i)
    where
      by : (e ≡ x) ⊎ (x ∈ h.ledger.edges) → Proper h.declared x
      by (inl q) = subst (Proper h.declared) q proper
      by (inr k) = sound x k

  -- the centre sends what is due by the rules
  due_batch : (k : ℕ) (x : Site) → due h.ledger.edges e (vault_by h.ledger h.keeping k x) ≡ batch_of a h.ledger (insert e h.ledger.edges) k
  due_batch k x =
      ap (λ (b : Bool). cond b (filter (is_due h.ledger.edges e (vault_by h.ledger h.keeping k x)) (insert e h.ledger.edges)) []) (sym (about.concerned k))
      ∙ ap (λ (s : Edges). cond (has_vault a.concerned k) s [])
      (filter_agrees (is_due h.ledger.edges e (vault_by h.ledger h.keeping k x)) (λ y. rises a y && not (is_told h.ledger k y)) (insert e h.ledger.edges) test)
    where
      flip : (p q : Bool) → (not p && q) ≡ (q && not p)
      flip true true = refl
      flip true false = refl
      flip false true = refl
      flip false false = refl

      test : (y : Edge) → y ∈ insert e h.ledger.edges → is_due h.ledger.edges e (vault_by h.ledger h.keeping k x) y ≡ (rises a y && not (is_told h.ledger k y))
      test y i =
          rw (rising y (proper_entered y i), told_has h.ledger k y) (flip (is_told h.ledger k y) (same e y || reaches h.ledger.edges y.to e.from))

  pub brought_batch : (k : ℕ) (x : Site) → brought h.ledger.edges (Add e) (vault_by h.ledger h.keeping k x) ≡ map Add (batch_of a h.ledger (insert e h.ledger.edges) k)
  brought_batch k x = ap (map Add) (due_batch k x)

  -- as many as are counted before the new edge stands there
  pub batch_number : e ∉ h.ledger.edges → (k : ℕ) → length (batch_of a h.ledger (insert e h.ledger.edges) k) ≡ due_number a h.ledger k
  batch_number absent k = by (has_vault a.concerned k)
    where
      new_rises : rises a e ≡ true
      new_rises = rising e proper ∙ or_left (same e e) _ (same_refl e)

      by : (b : Bool) → length (cond b (filter (λ y. rises a y && not (is_told h.ledger k y)) (insert e h.ledger.edges)) []) ≡ cond b (suc (length (due_of a h.ledger k))) 0
      by true = filter_insert (λ y. rises a y && not (is_told h.ledger k y)) e h.ledger.edges absent (rw (new_rises, untold h.ledger k e absent) refl)
      by false = refl

-- with the same told, the ledger with the new edge makes the same batches
pub batch_entered : (a : Addition) (l m : Ledger) (s : Edges) → m.edges ≡ s → ((k : ℕ) (x : Edge) → is_told m k x ≡ is_told l k x)
    → (k : ℕ) → batch_of a m m.edges k ≡ batch_of a l s k
batch_entered a l m s q told k =
    ap (λ (t : Edges). batch_of a m t k) q
    ∙ ap (λ (t : Edges). cond (has_vault a.concerned k) t [])
    (filter_agrees (λ y. rises a y && not (is_told m k y)) (λ y. rises a y && not (is_told l k y)) s (λ y i. rw (told k y) refl))

-- What vault k is told of then

module _ (a : Addition) (l m : Ledger) (s : Edges) (up : Ascending s) (old : (x : Edge) → x ∈ l.edges → x ∈ s) (low : Ascending l.edges)
    (edges : m.edges ≡ s) (told : (k : ℕ) (x : Edge) → is_told m k x ≡ (is_told l k x || (has s x && (rises a x && has_vault a.concerned k)))) where
  pub told_after : (k : ℕ) → told_of m k ≡ performs (map Add (batch_of a l s k)) (told_of l k)
  told_after k =
      ascending_unique (told_of m k) (performs (map Add (batch_of a l s k)) (told_of l k))
      (told_ascending m k (subst Ascending (sym edges) up)) (performs_ascending (map Add (batch_of a l s k)) (told_of l k) (told_ascending l k low)) to from
    where
      in_batch : (x : Edge) → x ∈ batch_of a l s k → (x ∈ s) × ((rises a x && has_vault a.concerned k) ≡ true)
      in_batch x = by (has_vault a.concerned k)
        where
          by : (b : Bool) → x ∈ cond b (filter (λ y. rises a y && not (is_told l k y)) s) [] → (x ∈ s) × ((rises a x && b) ≡ true)
          by true i =
              let h = (kept_has (λ y. rises a y && not (is_told l k y)) s x).0 i in
              (h.0, rw ((and_parts (rises a x) (not (is_told l k x)) h.1).0) refl)
          by false i = absurd (false≢true i)

      to : (x : Edge) → x ∈ told_of m k → x ∈ performs (map Add (batch_of a l s k)) (told_of l k)
      to x i = split (is_told l k x) refl
        where
          noted : (is_told l k x || (has s x && (rises a x && has_vault a.concerned k))) ≡ true
          noted = sym (told k x) ∙ sym (told_has m k x) ∙ i

          split : (b : Bool) → is_told l k x ≡ b → x ∈ performs (map Add (batch_of a l s k)) (told_of l k)
          split true q = adds_old (batch_of a l s k) (told_of l k) x (told_has l k x ∙ q)
          split false q = adds_new (batch_of a l s k) (told_of l k) x (sent (has_vault a.concerned k) refl)
            where
              rest : (has s x && (rises a x && has_vault a.concerned k)) ≡ true
              rest = sym (ap (λ (b : Bool). b || (has s x && (rises a x && has_vault a.concerned k))) q) ∙ noted

              risen : (rises a x && has_vault a.concerned k) ≡ true
              risen = (and_parts (has s x) (rises a x && has_vault a.concerned k) rest).1

              sent : (b : Bool) → has_vault a.concerned k ≡ b → x ∈ cond b (filter (λ y. rises a y && not (is_told l k y)) s) []
              sent true r =
                  (kept_has (λ y. rises a y && not (is_told l k y)) s x).1
                  ((and_parts (has s x) (rises a x && has_vault a.concerned k) rest).0, rw ((and_parts (rises a x) (has_vault a.concerned k) risen).0, q) refl)
              sent false r = absurd (false≢true (sym r ∙ (and_parts (rises a x) (has_vault a.concerned k) risen).1))

      from : (x : Edge) → x ∈ performs (map Add (batch_of a l s k)) (told_of l k) → x ∈ told_of m k
      from x i = told_has m k x ∙ told k x ∙ by (adds_cases (batch_of a l s k) (told_of l k) x i)
        where
          by : (x ∈ batch_of a l s k) ⊎ (x ∈ told_of l k) → (is_told l k x || (has s x && (rises a x && has_vault a.concerned k))) ≡ true
          by (inl j) = let b = in_batch x j in or_right (is_told l k x) _ (rw (b.0, b.1) refl)
          by (inr j) = or_left (is_told l k x) _ (sym (told_has l k x) ∙ j)
