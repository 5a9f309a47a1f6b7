-- What every call keeps of a vault, and what that says of its table, its link and its store.
use Rattle.std.proofs.Common.{◌≡◌, ℕ, suc, ◌+◌, ◌≤◌, Bool, true, false, cond, not, eqb, ltb, ◌⊎◌, List, [], ◌∷◌, ◌++◌, map, length, Some, None, Ok, sym, refl, ap, ◌∙◌, subst, inl, inr, ⊎_elim, arith}
use Rattle.std.proofs.lemmas.Bool.{false≢true, both_ways, not-true, and_parts, or_cases, or_left, or_right, cases_Bool, eqb-true, lt-ltb}
use Rattle.std.proofs.lemmas.List.{length-append, length-map}
use Rattle.edges.specs.declared.edges.Edge.{Edge}
use Rattle.edges.specs.declared.edges.Change.{Change}
use Rattle.edges.specs.declared.edges.Change.TheVariants.{Add, Remove}
use Rattle.edges.specs.Edges.{edge, same, vault_edge}
use Rattle.edge_sets.specs.EdgeSets.{Edges, Ascending, has, insert, delete, perform, ◌∈◌, ◌∉◌}
use Rattle.edge_sets.proofs.Order.{same_equal}
use Rattle.edge_sets.proofs.Members.{has_delete, insert_new, insert_old, insert_cases, delete_old, delete_else, length_delete_most, length_insert}
use Rattle.edge_sets.proofs.Ascents.{perform_ascending, length_delete}
use Rattle.stores.specs.Stores.{has_room}
use Rattle.links.specs.Links.{rest}
use Rattle.vaults.specs.Sites.{Site, with_waiting}
use Rattle.graph.specs.Paths.{UserPrivilege, Reach, Leads}
use Rattle.rules.specs.Installation.{Vault, Limits, empty, with_site, keeping}
use Rattle.rules.specs.Sending.{performs, Lists, Upper, Due, withdrawals, send, taken}
use Rattle.graph.specs.Paths.{Concerns}
use Rattle.rules.specs.Questions.{HasStoreRoom, HasLinkRoom, head_answer}
use Rattle.rules.specs.Outcomes.{applied, delivered, performed}
use Rattle.rules.specs.Laws.{latest, Follows}
use Rattle.graph.proofs.Reaching.{reach_split, reach_mono, reach_within}
use Rattle.rules.proofs.Messages.{performs_append, performs_ascending, perform_twice, Last, untouched, adds, removes, last, Fits, fits_now, fits_append, fits_all, fits_adds, adds_most, adds_old, adds_new, adds_cases, ForVaults, for_vaults_append, for_vaults_adds, all_taken}

-- What the centre has told a vault: s is the policy
pub record Informed (s : Edges) (kept : ℕ → Bool) (told : Edges) : Type 0 where
  -- policy edges only, and all that lead to a privilege kept there
  pub sound : (e : Edge) → e ∈ told → e ∈ s
  pub complete : (e : Edge) (p : ℕ) → kept p ≡ true → e ∈ s → Leads s e p → e ∈ told
  pub plain : (e : Edge) → e ∈ told → vault_edge e ≡ true

-- what is on its way there
pub record Carried (told : Edges) (x : Site) : Type 0 where
  -- what the vault is told is what its table will be
  pub current : told ≡ performs x.waiting x.table
  -- the link has room to withdraw all of it, and the store for each message in turn
  pub link : length x.waiting + length told ≤ x.link_limit
  pub fits : Fits x.store_limit x.waiting x.table
  pub messages : ForVaults x.waiting
  pub ordered : Ascending x.table

pub record VaultInvariantHolds (s : Edges) (v : Vault) : Type 0 where
  pub keeps : (p : ℕ) → v.kept p ≡ true → UserPrivilege p
  pub informed : Informed s v.kept v.told
  pub carried : Carried v.told v.site

told_ascending : {told : Edges} {x : Site} → Carried told x → Ascending told
told_ascending {x = x} c = rw c.current (performs_ascending x.waiting x.table c.ordered)

-- messages that go out behind those that wait
carried_more : {told : Edges} {x : Site} (ms : List Change) → Carried told x → length x.waiting + length ms + length (performs ms told) ≤ x.link_limit
    → Fits x.store_limit ms told → ForVaults ms → Carried (performs ms told) (with_waiting (x.waiting ++ ms) x)
carried_more {told} {x} ms c l f v = record {
  current = ap (performs ms) c.current ∙ sym (performs_append x.waiting ms x.table);
  link = let i = length-append x.waiting ms in omega arith;
  fits = fits_append x.store_limit x.waiting ms x.table c.fits (subst (λ (t : Edges). Fits x.store_limit ms t) c.current f);
  messages = for_vaults_append x.waiting ms c.messages v;
  ordered = c.ordered;
}

fits_told : {told : Edges} {x : Site} → Carried told x → length told ≤ x.store_limit
fits_told {x = x} c = rw c.current (fits_all x.store_limit x.waiting x.table c.fits)

-- sending additions
pub good_add : (s : Edges) (e : Edge) (v : Vault) (b : Edges) → ((x : Edge) → Due s e v x → vault_edge x ≡ true)
    → Lists b (Due s e v) → HasStoreRoom v (map Add b) → HasLinkRoom v (map Add b) → VaultInvariantHolds s v → VaultInvariantHolds (insert e s) (send (map Add b) v)
good_add s e v b due_vault lists store link g = record {
  keeps = g.keeps;
  informed = record {
    sound = λ x h. sounds x (adds_cases b v.told x h);
    complete = λ x p k h r. completes x p k (insert_cases e s x h) (reach_split e (insert_cases e s) r);
    plain = λ x h. ⊎_elim (λ (k : x ∈ b). due_vault x ((lists.1 x).0 k)) (g.informed.plain x) (adds_cases b v.told x h);
  };
  carried = carried_more (map Add b) g.carried
      (let j = length-map b Add in let k = adds_most b v.told (told_ascending g.carried) in omega arith)
      (fits_adds v.site.store_limit b v.told (told_ascending g.carried) (let j = length-map b Add in omega arith))
      (for_vaults_adds b (λ x h. due_vault x ((lists.1 x).0 h)));
}
  where
    sounds : (x : Edge) → (x ∈ b) ⊎ (x ∈ v.told) → x ∈ insert e s
    sounds x (inl h) =
        ⊎_elim (λ (q : x ≡ e). rw q (insert_new e s)) (λ (q : (x ∈ s) × Leads s x e.from). insert_old e s x q.0) ((lists.1 x).0 h).1
    sounds x (inr h) = insert_old e s x (g.informed.sound x h)

    due : (x : Edge) → Concerns s v.kept e.to → Upper s e x → x ∈ performs (map Add b) v.told
    due x r u = ⊎_elim (adds_old b v.told x) (λ (q : x ∉ v.told). adds_new b v.told x ((lists.1 x).1 (r, u, q))) (cases_Bool (has v.told x))

    completes : (x : Edge) (p : ℕ) → v.kept p ≡ true → (e ≡ x) ⊎ (x ∈ s)
        → Reach s x.to p ⊎ (Reach s x.to e.from × Reach s e.to p) → x ∈ performs (map Add b) v.told
    completes x p k (inl q) (inl r) = due x (p, k, rw q r) (inl (sym q))
    completes x p k (inl q) (inr r) = due x (p, k, r.1) (inl (sym q))
    completes x p k (inr q) (inl r) = adds_old b v.told x (g.informed.complete x p k q r)
    completes x p k (inr q) (inr r) = due x (p, k, r.1) (inr (q, r.0))

-- sending a withdrawal
told_other : (e : Edge) (t : Edges) → e ∉ t → (x : Edge) → x ∈ t → same e x ≡ false
told_other e t k x h =
    ⊎_elim (λ (q : same e x ≡ true). absurd (both_ways (has t e) k (rw (same_equal e x q) h))) (λ (q : same e x ≡ false). q) (cases_Bool (same e x))

left_other : (e : Edge) (t : Edges) (x : Edge) → x ∈ delete e t → same e x ≡ false
left_other e t x h = not-true (same e x) (and_parts (not (same e x)) (has t x) (sym (has_delete e t x) ∙ h)).0

pub good_remove : (s : Edges) (e : Edge) (v : Vault) → VaultInvariantHolds s v → VaultInvariantHolds (delete e s) (send (withdrawals (e ∷ []) v) v)
good_remove s e v g = by (has v.told e) refl
  where
    complete : (x : Edge) (p : ℕ) → v.kept p ≡ true → x ∈ delete e s → Leads (delete e s) x p → x ∈ v.told
    complete x p k h r = g.informed.complete x p k (delete_old e s x h) (reach_mono (delete_old e s) r)

    stays : (x : Edge) → x ∈ v.told → same e x ≡ false → x ∈ delete e s
    stays x h q = delete_else e s x q ∙ g.informed.sound x h

    by : (t : Bool) → has v.told e ≡ t → VaultInvariantHolds (delete e s) (send (map Remove (cond t (e ∷ []) [])) v)
    by true q = record {
      keeps = g.keeps;
      informed = record {
        sound = λ x h. stays x (delete_old e v.told x h) (left_other e v.told x h);
        complete = λ x p k h r. delete_else e v.told x (left_other e s x h) ∙ complete x p k h r;
        plain = λ x h. g.informed.plain x (delete_old e v.told x h);
      };
      carried = carried_more (Remove e ∷ []) g.carried
          (let j = length_delete e v.told (told_ascending g.carried) q in let l = g.carried.link in omega arith)
          (let i = fits_told g.carried in let j = length_delete_most e v.told in (i, omega arith))
          (g.informed.plain e q, tt);
    }
    by false q = record {
      keeps = g.keeps;
      informed = record { sound = λ x h. stays x h (told_other e v.told q x h); complete = complete; plain = g.informed.plain };
      carried = carried_more [] g.carried (let l = g.carried.link in omega arith) (fits_told g.carried) tt;
    }

-- performing the first message, with or without striking it
carried_applied : {told : Edges} (x : Site) → Carried told x → Carried told (applied x)
carried_applied {told} x c = by x.waiting refl
  where
    by : (ms : List Change) → x.waiting ≡ ms → Carried told (performed ms x)
    by [] q = c
    by (m ∷ ms) q = record {
      current = rw (q, perform_twice m x.table c.ordered) (rw q at c.current);
      link = c.link;
      fits =
          let k : Fits x.store_limit (m ∷ ms) x.table = rw q at c.fits in
          rw q (fits_now x.store_limit ms (perform m x.table) k.1, rw (perform_twice m x.table c.ordered) k.1);
      messages = c.messages;
      ordered = perform_ascending m x.table c.ordered;
    }

-- a message that is performed waits still
pub unstruck : (ms : List Change) (x : Site) → x.waiting ≡ (performed ms x).waiting
unstruck [] x = refl
unstruck (m ∷ ms) x = refl

carried_delivered : {told : Edges} (x : Site) → Carried told x → Carried told (delivered x)
carried_delivered {told} x c =
    subst (λ (ws : List Change). Carried told (with_waiting (rest ws) (applied x))) (unstruck x.waiting x) (by x.waiting refl)
  where
    by : (ms : List Change) → x.waiting ≡ ms → Carried told (with_waiting (rest ms) (performed ms x))
    by [] q = subst (λ (ws : List Change). Carried told (with_waiting ws x)) q c
    by (m ∷ ms) q =
        let f : Fits x.store_limit (m ∷ ms) x.table = rw q at c.fits in
        let v : ForVaults (m ∷ ms) = rw q at c.messages in
        let l : suc (length ms) + length told ≤ x.link_limit = rw q at c.link in
        record { current = rw q at c.current; link = omega arith; fits = f.1; messages = v.1; ordered = perform_ascending m x.table c.ordered }

pub good_applied : (s : Edges) (v : Vault) → VaultInvariantHolds s v → VaultInvariantHolds s (with_site applied v)
good_applied s v g = record { keeps = g.keeps; informed = g.informed; carried = carried_applied v.site g.carried }

pub good_delivered : (s : Edges) (v : Vault) → VaultInvariantHolds s v → VaultInvariantHolds s (with_site delivered v)
good_delivered s v g = record { keeps = g.keeps; informed = g.informed; carried = carried_delivered v.site g.carried }

-- keeping a privilege while the policy is empty
pub good_keep : (p : ℕ) (s : Edges) → s ≡ [] → UserPrivilege p → (v : Vault) → VaultInvariantHolds s v → VaultInvariantHolds s (keeping p v)
good_keep p s q b v g = record {
  keeps = λ r k. ⊎_elim (λ (i : eqb p r ≡ true). rw (eqb-true p r i) at b) (g.keeps r) (or_cases (eqb p r) (v.kept r) k);
  informed = record {
    sound = g.informed.sound;
    complete = λ e r k h l. absurd (false≢true (sym (ap (λ (t : Edges). has t e) q) ∙ h));
    plain = g.informed.plain;
  };
  carried = g.carried;
}

pub good_empty : (l : Limits) → VaultInvariantHolds [] (empty l)
good_empty l = record {
  keeps = λ p k. absurd (false≢true k);
  informed = record { sound = λ e h. h; complete = λ e p k h r. h; plain = λ e h. absurd (false≢true h) };
  carried = record { current = refl; link = omega arith; fits = omega arith; messages = tt; ordered = refl };
}

-- its table follows the policy
pub follows : (s : Edges) (v : Vault) → VaultInvariantHolds s v → Follows s v
follows s v g = record {
  withdrawn = λ e h k. withdrawn e h k (last v.site.waiting v.site.table e);
  coming = λ e p k h r. coming e (rw g.carried.current at (g.informed.complete e p k h r)) (last v.site.waiting v.site.table e);
  settled = λ q u p b k.
      let now : v.told ≡ v.site.table = rw q at g.carried.current in (
        reach_mono (λ e h. g.informed.sound e (rw now h)),
        reach_within (λ x y h r. rw now at (g.informed.complete (edge x y) p k h r)),
      );
}
  where
    lacks : (e : Edge) → e ∉ s → e ∈ performs v.site.waiting v.site.table → ⊥
    lacks e k h = both_ways (has s e) k (g.informed.sound e (rw g.carried.current h))

    withdrawn : (e : Edge) → e ∈ v.site.table → e ∉ s → Last v.site.waiting v.site.table e → latest v.site.waiting e ≡ Some (Remove e)
    withdrawn e h k (untouched p q) = absurd (lacks e k (q ∙ h))
    withdrawn e h k (adds p q) = absurd (lacks e k q)
    withdrawn e h k (removes p q) = p

    coming : (e : Edge) → e ∈ performs v.site.waiting v.site.table → Last v.site.waiting v.site.table e
        → ((e ∈ v.site.table) × (latest v.site.waiting e ≡ None)) ⊎ (latest v.site.waiting e ≡ Some (Add e))
    coming e h (untouched p q) = inl (sym q ∙ h, p)
    coming e h (adds p q) = inr p
    coming e h (removes p q) = absurd (both_ways (has (performs v.site.waiting v.site.table) e) q h)

-- its link takes what is sent, and its store the first message
pub adds_taken : (s : Edges) (e : Edge) (v : Vault) (b : Edges) → ((x : Edge) → Due s e v x → vault_edge x ≡ true) → Lists b (Due s e v) → HasLinkRoom v (map Add b)
    → taken v.site.link_limit v.site.waiting (map Add b) ≡ Ok tt
adds_taken s e v b due_vault lists link =
    all_taken v.site.link_limit v.site.waiting (map Add b) (for_vaults_adds b (λ x h. due_vault x ((lists.1 x).0 h))) (omega arith)

pub withdrawal_taken : (s : Edges) (e : Edge) (v : Vault) → VaultInvariantHolds s v → taken v.site.link_limit v.site.waiting (withdrawals (e ∷ []) v) ≡ Ok tt
withdrawal_taken s e v g = by (has v.told e) refl
  where
    by : (t : Bool) → has v.told e ≡ t → taken v.site.link_limit v.site.waiting (map Remove (cond t (e ∷ []) [])) ≡ Ok tt
    by true q =
        let j = length_delete e v.told (told_ascending g.carried) q in
        let l = g.carried.link in
        all_taken v.site.link_limit v.site.waiting (Remove e ∷ []) (g.informed.plain e q, tt) (omega arith)
    by false q = refl

pub head_taken : (s : Edges) (v : Vault) → VaultInvariantHolds s v → head_answer v.site.waiting v.site ≡ Ok tt
head_taken s v g = by v.site.waiting g.carried.fits g.carried.messages
  where
    by : (ms : List Change) → Fits v.site.store_limit ms v.site.table → ForVaults ms → head_answer ms v.site ≡ Ok tt
    by [] f m = refl
    by (Remove e ∷ ms) f m = refl
    by (Add e ∷ ms) f m =
        let r : has_room v.site.store_limit v.site.table e ≡ true =
        ⊎_elim
        (or_left (has v.site.table e) (ltb (length v.site.table) v.site.store_limit))
        (λ (k : e ∉ v.site.table).
        let i = length_insert e v.site.table k in
        let j = fits_now v.site.store_limit ms (insert e v.site.table) f.1 in
        or_right (has v.site.table e) (ltb (length v.site.table) v.site.store_limit) (lt-ltb _ _ (omega arith)))
        (cases_Bool (has v.site.table e)) in
        rw (m.0, r)
