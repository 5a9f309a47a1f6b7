-- An edge that comes or goes by the centre's books, and by the rules.
use Rattle.std.proofs.Common.{◌≡◌, ℕ, suc, ◌+◌, ◌*◌, ◌<◌, ◌≤◌, Bool, true, false, cond, not, if◌then◌else◌, ◌&&◌, ◌||◌, List, [], ◌∷◌, ◌++◌, map, length, ltb, leb, Some, None, Ok, Err, Option, Result, sym, refl, ap, ◌∙◌, subst, arith}
use Rattle.std.proofs.lemmas.Bool.{false≢true, leb-true}
use Rattle.edges.specs.declared.edges.Edge.{Edge}
use Rattle.edges.specs.declared.edges.Change.{Change}
use Rattle.edges.specs.declared.edges.Change.TheVariants.{Add, Remove}
use Rattle.edges.specs.Edges.{same, is_edge}
use Rattle.policy.specs.declared.fault.PolicyFault.{PolicyFault}
use Rattle.policy.specs.declared.fault.PolicyFault.TheVariants.{NoEdge, Full}
use Rattle.rules.specs.declared.fault.CentreFault.{CentreFault}
use Rattle.rules.specs.declared.fault.CentreFault.TheVariants.{PolicyFull, StoreRoom, LinkRoom}
use Rattle.edge_sets.specs.EdgeSets.{Edges, Ascending, has, insert, delete}
use Rattle.edge_sets.proofs.Members.{insert_old, has_delete, delete_absent}
use Rattle.edge_sets.proofs.Ascents.{insert_ascending, delete_ascending, ascending_unique}
use Rattle.vaults.specs.Sites.{Site, site_at, with_waiting, send_to}
use Rattle.privileges.specs.Privileges.{Proper, is_proper}
use Rattle.privileges.proofs.Declared.{proper_decides, edge_by_number}
use Rattle.rules.specs.Installation.{Vault, Stage, Installation, with_policy}
use Rattle.rules.specs.Sending.{performs, due, brought, send, send_each}
use Rattle.rules.specs.Questions.{Question, asks, first_no, at_each, store_room, link_room, link_takes, HasStoreRoom, HasLinkRoom, room, for_change}
use Rattle.rules.specs.Outcomes.{plan}
use Rattle.rules.proofs.Vaults.{VaultInvariantHolds, adds_taken, withdrawal_taken}
use Rattle.rules.proofs.Invariant.{InvariantHolds, due_vault}
use Rattle.rules.proofs.Deciding.{due_lists}
use Rattle.policy.specs.declared.addition.Addition.{Addition}
use Rattle.policy.specs.declared.keeping.Keeping.{Keeping}
use Rattle.policy.specs.VaultSets.{has_vault}
use Rattle.policy.specs.Ledgers.{is_told, told_of, with_entry}
use Rattle.policy.specs.Additions.{rises, due_number}
use Rattle.centre.specs.Worked.{sent_all}
use Rattle.centre.specs.Holding.{Held, vault_by, vaults_from, installation}
use Rattle.centre.specs.Room.{About, store_fits, link_fits, first_short, room_by, room_answer}
use Rattle.centre.specs.Sendings.{batch_of, Announced, Withdrawn, Entered}
use Rattle.centre.specs.Sayings.{refusal, Changed}
use Rattle.centre.proofs.Told.{untold, told_has, told_ascending}
use Rattle.centre.proofs.Batches.{brought_batch, batch_number, batch_entered, told_after}
use Rattle.centre.proofs.Turns.{each, EachSite, altered_each, each_site, every_site, Takes, none_refuses, Sends, sends_each, refused_at, Tells, first_at, none_short, append_none, all_wait, refused_not_ok}

adds_length : (s : Edges) → length (map Add s) ≡ length s
adds_length [] = refl
adds_length (d ∷ s) = ap suc (adds_length s)

questions_assoc : (a b c : List Question) → (a ++ b) ++ c ≡ a ++ (b ++ c)
questions_assoc [] b c = refl
questions_assoc (q ∷ a) b c = ap (λ (qs : List Question). q ∷ qs) (questions_assoc a b c)

room_refusal : (S L : Option ℕ) (o : Option CentreFault) → (L ≡ None → o ≡ None) → refused_at StoreRoom (refused_at LinkRoom o L) S ≡ refusal (room_by S L)
room_refusal (Some k) L o h = refl
room_refusal None (Some k) o h = refl
room_refusal None None o h = h refl

room_none : (S L : Option ℕ) → room_by S L ≡ Ok tt → L ≡ None
room_none (Some k) L q = absurd (refused_not_ok tt _ q)
room_none None (Some k) q = absurd (refused_not_ok tt _ q)
room_none None None q = refl

module _ {R : Type 0} (t : Stage) (h : Held R) where
  abbrev W : Installation
  W = installation t h

  -- an installation with another policy and other vaults
  made : (x : Held R) (s : Edges) (vs : List Vault) → x.declared ≡ h.declared → x.ledger.edges ≡ s → vaults_from x.ledger x.keeping 0 x.sites ≡ vs
      → with_policy s vs W ≡ installation t x
  made x s vs d e v = rw (sym d, sym e, sym v) refl

  -- An addition

  module _ (e : Edge) where
    pub added_held : has h.ledger.edges e ≡ true → Changed W (Add e) (Ok tt) W
    added_held q = record {
      asked = by (has h.ledger.edges e) q;
      left = after (has h.ledger.edges e) q;
    }
      where
        by : (b : Bool) → b ≡ true → first_no (cond (not b) (room W (Add e) (plan W (Some (Add e))) ++ at_each link_takes 0 W.vaults (plan W (Some (Add e)))) []) ≡ None
        by true r = refl
        by false r = absurd (false≢true r)

        after : (b : Bool) → b ≡ true → cond (not b) (with_policy (insert e h.ledger.edges) (send_each (plan W (Some (Add e))) W.vaults) W) W ≡ W
        after true r = refl
        after false r = absurd (false≢true r)

    module _ (absent : has h.ledger.edges e ≡ false) where
      -- what is asked where the edge is absent
      asked_for : first_no (for_change W (Add e) (plan W (Some (Add e))))
          ≡ first_no (room W (Add e) (plan W (Some (Add e))) ++ at_each link_takes 0 W.vaults (plan W (Some (Add e))))
      asked_for = rw absent refl

      pub added_full : ltb (length h.ledger.edges) 512 ≡ false → Changed W (Add e) (Err PolicyFull) W
      added_full q = record { asked = asked_for ∙ rw q refl; left = refl }

      module _ (space : ltb (length h.ledger.edges) 512 ≡ true) (a : Addition) (about : About h e a) (fine : InvariantHolds W) (p : is_proper h.declared e ≡ true) where
        proper : Proper h.declared e
        proper = (proper_decides h.declared e).0 p

        msgs : Vault → List Change
        msgs = brought h.ledger.edges (Add e)

        number : (k : ℕ) (x : Site) → length (brought h.ledger.edges (Add e) (vault_by h.ledger h.keeping k x)) ≡ due_number a h.ledger k
        number k x =
            ap length (brought_batch h e a about fine.formed.held proper k x)
            ∙ adds_length (batch_of a h.ledger (insert e h.ledger.edges) k)
            ∙ batch_number h e a about fine.formed.held proper absent k

        stores : EachSite (Tells h.ledger h.keeping (brought h.ledger.edges (Add e)) StoreRoom HasStoreRoom (λ v ms. leb (length v.told + length ms) v.site.store_limit) (store_fits a h)) 0 h.sites
        stores = each_site _ h.sites (λ k l. ap (λ (n : ℕ). leb (length (told_of h.ledger k) + n) (site_at h.sites k).store_limit) (number k (site_at h.sites k)))

        links : EachSite (Tells h.ledger h.keeping (brought h.ledger.edges (Add e)) LinkRoom HasLinkRoom (λ v ms. leb (length v.site.waiting + length v.told + 2 * length ms) v.site.link_limit) (link_fits a h)) 0 h.sites
        links = each_site _ h.sites (λ k l.
            ap (λ (n : ℕ). leb (length (site_at h.sites k).waiting + length (told_of h.ledger k) + 2 * n) (site_at h.sites k).link_limit) (number k (site_at h.sites k)))

        -- a link with room takes all
        takes : ((k : ℕ) → k < length h.sites → link_fits a h k ≡ true) → EachSite (Takes h.ledger h.keeping (brought h.ledger.edges (Add e))) 0 h.sites
        takes fits = by 0 h.sites (every_site h.ledger h.keeping (VaultInvariantHolds h.ledger.edges) 0 h.sites fine.each) (each_site (λ k x. HasLinkRoom (vault_by h.ledger h.keeping k x) (brought h.ledger.edges (Add e) (vault_by h.ledger h.keeping k x))) h.sites roomy)
          where
            roomy : (k : ℕ) → k < length h.sites → HasLinkRoom (vault_by h.ledger h.keeping k (site_at h.sites k)) (brought h.ledger.edges (Add e) (vault_by h.ledger h.keeping k (site_at h.sites k)))
            roomy k l =
                leb-true _ _ (ap (λ (n : ℕ). leb (length (site_at h.sites k).waiting + length (told_of h.ledger k) + 2 * n) (site_at h.sites k).link_limit) (number k (site_at h.sites k))
                ∙ fits k l)

            by : (k : ℕ) (xs : List Site) → EachSite (λ j x. VaultInvariantHolds h.ledger.edges (vault_by h.ledger h.keeping j x)) k xs
                → EachSite (λ k x. HasLinkRoom (vault_by h.ledger h.keeping k x) (brought h.ledger.edges (Add e) (vault_by h.ledger h.keeping k x))) k xs
                → EachSite (Takes h.ledger h.keeping (brought h.ledger.edges (Add e))) k xs
            by k [] g r = tt
            by k (x ∷ xs) g r = (
              adds_taken h.ledger.edges e (vault_by h.ledger h.keeping k x) (due h.ledger.edges e (vault_by h.ledger h.keeping k x))
                  (due_vault fine.formed.held proper (vault_by h.ledger h.keeping k x) g.0)
                  (due_lists h.ledger.edges e (vault_by h.ledger h.keeping k x) fine.ordered g.0.keeps) r.0,
              by (suc k) xs g.1 r.1,
            )

        -- the questions about room, after the one about the policy
        asked : first_no (for_change W (Add e) (plan W (Some (Add e)))) ≡ refusal (room_answer a h)
        asked =
            asked_for
            ∙ ap (λ (b : Bool). first_no (asks PolicyFull (length h.ledger.edges < 512) b ∷ ((A ++ B) ++ C))) space
            ∙ ap first_no (questions_assoc A B C)
            ∙ first_at h.ledger h.keeping (brought h.ledger.edges (Add e)) StoreRoom HasStoreRoom _ (store_fits a h) 0 h.sites (B ++ C) stores
            ∙ ap (λ (o : Option CentreFault). refused_at StoreRoom o (first_short (store_fits a h) 0 (length h.sites)))
            (first_at h.ledger h.keeping (brought h.ledger.edges (Add e)) LinkRoom HasLinkRoom _ (link_fits a h) 0 h.sites C links)
            ∙ room_refusal (first_short (store_fits a h) 0 (length h.sites)) (first_short (link_fits a h) 0 (length h.sites)) (first_no C) none
          where
            mss : List (List Change)
            mss = map (brought h.ledger.edges (Add e)) W.vaults

            A : List Question
            A = at_each store_room 0 W.vaults mss

            B : List Question
            B = at_each link_room 0 W.vaults mss

            C : List Question
            C = at_each link_takes 0 W.vaults mss

            none : first_short (link_fits a h) 0 (length h.sites) ≡ None → first_no C ≡ None
            none q = none_refuses h.ledger h.keeping (brought h.ledger.edges (Add e)) 0 h.sites
                (takes (λ k l. let z : k + 0 ≡ k = omega arith in subst (λ (n : ℕ). link_fits a h n ≡ true) z (none_short (link_fits a h) 0 (length h.sites) q k l)))

        pub added_short : (f : CentreFault) → room_answer a h ≡ Err f → Changed W (Add e) (Err f) W
        added_short f q = record { asked = asked ∙ ap refusal q; left = refl }

        -- what the vaults are then
        module _ (q : room_answer a h ≡ Ok tt) (m x : Held R) (entered : Entered (insert e h.ledger.edges) h m) (told : Announced a m.ledger.edges m x) where
          fits : (k : ℕ) → k < length h.sites → link_fits a h k ≡ true
          fits k l =
              let z : k + 0 ≡ k = omega arith in
              subst (λ (n : ℕ). link_fits a h n ≡ true) z (none_short (link_fits a h) 0 (length h.sites) (room_none _ _ q) k l)

          f : ℕ → Site → Site
          f k z = sent_all (map Add (batch_of a m.ledger m.ledger.edges k)) z

          sends : EachSite (Sends h.ledger h.keeping (brought h.ledger.edges (Add e)) x.ledger (λ k z. sent_all (map Add (batch_of a m.ledger m.ledger.edges k)) z)) 0 h.sites
          sends = by 0 h.sites (takes fits)
            where
              same_batch : (k : ℕ) (z : Site) → map Add (batch_of a m.ledger m.ledger.edges k) ≡ brought h.ledger.edges (Add e) (vault_by h.ledger h.keeping k z)
              same_batch k z =
                  ap (map Add) (batch_entered a h.ledger m.ledger (insert e h.ledger.edges) entered.edges entered.told k)
                  ∙ sym (brought_batch h e a about fine.formed.held proper k z)

              noted : (k : ℕ) (y : Edge) → is_told x.ledger k y ≡ (is_told h.ledger k y || (has (insert e h.ledger.edges) y && (rises a y && has_vault a.concerned k)))
              noted k y =
                  told.told k y ∙ ap (λ (b : Bool). b || (has m.ledger.edges y && (rises a y && has_vault a.concerned k))) (entered.told k y)
                  ∙ ap (λ (s : Edges). is_told h.ledger k y || (has s y && (rises a y && has_vault a.concerned k))) entered.edges

              after : (k : ℕ) → told_of x.ledger k ≡ performs (map Add (batch_of a h.ledger (insert e h.ledger.edges) k)) (told_of h.ledger k)
              after = told_after a h.ledger x.ledger (insert e h.ledger.edges) (insert_ascending e h.ledger.edges fine.ordered)
                  (insert_old e h.ledger.edges) fine.ordered (told.edges ∙ entered.edges) noted

              by : (k : ℕ) (xs : List Site) → EachSite (Takes h.ledger h.keeping (brought h.ledger.edges (Add e))) k xs
                  → EachSite (Sends h.ledger h.keeping (brought h.ledger.edges (Add e)) x.ledger (λ k z. sent_all (map Add (batch_of a m.ledger m.ledger.edges k)) z)) k xs
              by k [] t = tt
              by k (z ∷ zs) t = (
                record {
                  told = after k ∙ ap (λ (ms : List Change). performs ms (told_of h.ledger k)) (sym (brought_batch h e a about fine.formed.held proper k z));
                  site = ap (λ (ms : List Change). sent_all ms z) (same_batch k z) ∙ all_wait (brought h.ledger.edges (Add e) (vault_by h.ledger h.keeping k z)) z t.0;
                },
                by (suc k) zs t.1,
              )

          pub added_entered : Changed W (Add e) (Ok tt) (installation t x)
          added_entered = record {
            asked = asked ∙ ap refusal q;
            left = ap (λ (b : Bool). cond (not b) (with_policy (insert e h.ledger.edges) (send_each (map (brought h.ledger.edges (Add e)) W.vaults) W.vaults) W) W) absent
                ∙ made x (insert e h.ledger.edges) (send_each (map (brought h.ledger.edges (Add e)) W.vaults) W.vaults)
                (told.rest.declared ∙ entered.rest.declared) (told.edges ∙ entered.edges) vaults;
          }
            where
              vaults : vaults_from x.ledger x.keeping 0 x.sites ≡ send_each (map (brought h.ledger.edges (Add e)) W.vaults) W.vaults
              vaults =
                  ap (λ (ks : Keeping). vaults_from x.ledger ks 0 x.sites) (told.rest.keeping ∙ entered.rest.keeping)
                  ∙ ap (vaults_from x.ledger h.keeping 0) (altered_each _ m.sites x.sites told.sites)
                  ∙ ap (λ (xs : List Site). vaults_from x.ledger h.keeping 0 (each (λ k z. sent_all (map Add (batch_of a m.ledger m.ledger.edges k)) z) 0 xs)) entered.sites
                  ∙ sends_each h.ledger h.keeping (brought h.ledger.edges (Add e)) x.ledger _ 0 h.sites sends

  -- A withdrawal

  module _ (e : Edge) (fine : InvariantHolds W) (x : Held R) (gone : Withdrawn e h x) where
    -- what vault k is told of then
    told_without : (k : ℕ) → told_of x.ledger k ≡ delete e (told_of h.ledger k)
    told_without k =
        ascending_unique (told_of x.ledger k) (delete e (told_of h.ledger k))
        (told_ascending x.ledger k (subst Ascending (sym gone.edges) (delete_ascending e h.ledger.edges fine.ordered)))
        (delete_ascending e (told_of h.ledger k) (told_ascending h.ledger k fine.ordered))
        (λ y i. same_members y ∙ i) (λ y i. sym (same_members y) ∙ i)
      where
        same_members : (y : Edge) → has (delete e (told_of h.ledger k)) y ≡ has (told_of x.ledger k) y
        same_members y =
            has_delete e (told_of h.ledger k) y ∙ ap (λ (b : Bool). not (same e y) && b) (told_has h.ledger k y)
            ∙ sym (told_has x.ledger k y ∙ gone.told k y)

    -- one message for a vault that is told, none for any other
    recalled : (k : ℕ) (z : Site) → brought h.ledger.edges (Remove e) (vault_by h.ledger h.keeping k z) ≡ cond (is_told h.ledger k e) (Remove e ∷ []) []
    recalled k z = ap (λ (b : Bool). map Remove (cond b (e ∷ []) [])) (told_has h.ledger k e) ∙ by (is_told h.ledger k e)
      where
        by : (b : Bool) → map Remove (cond b (e ∷ []) []) ≡ cond b (Remove e ∷ []) []
        by true = refl
        by false = refl

    recalls : EachSite (Takes h.ledger h.keeping (brought h.ledger.edges (Remove e))) 0 h.sites
    recalls = by 0 h.sites (every_site h.ledger h.keeping (VaultInvariantHolds h.ledger.edges) 0 h.sites fine.each)
      where
        by : (k : ℕ) (xs : List Site) → EachSite (λ j z. VaultInvariantHolds h.ledger.edges (vault_by h.ledger h.keeping j z)) k xs
            → EachSite (Takes h.ledger h.keeping (brought h.ledger.edges (Remove e))) k xs
        by k [] g = tt
        by k (z ∷ zs) g = (withdrawal_taken h.ledger.edges e (vault_by h.ledger h.keeping k z) g.0, by (suc k) zs g.1)

    sends_recalls : EachSite (Sends h.ledger h.keeping (brought h.ledger.edges (Remove e)) x.ledger (λ k z. cond (is_told h.ledger k e) (send_to (Remove e) z) z)) 0 h.sites
    sends_recalls = by 0 h.sites recalls
      where
        told_now : (k : ℕ) (t : Edges) → t ≡ told_of h.ledger k → (b : Bool) → has t e ≡ b → delete e t ≡ performs (cond b (Remove e ∷ []) []) t
        told_now k t q true r = refl
        told_now k t q false r = delete_absent e t r

        one : (b : Bool) (z : Site) → cond b (send_to (Remove e) z) z ≡ sent_all (cond b (Remove e ∷ []) []) z
        one true z = refl
        one false z = refl

        by : (k : ℕ) (xs : List Site) → EachSite (Takes h.ledger h.keeping (brought h.ledger.edges (Remove e))) k xs
            → EachSite (Sends h.ledger h.keeping (brought h.ledger.edges (Remove e)) x.ledger (λ k z. cond (is_told h.ledger k e) (send_to (Remove e) z) z)) k xs
        by k [] t = tt
        by k (z ∷ zs) t = (
          record {
            told =
                told_without k ∙ told_now k (told_of h.ledger k) refl (is_told h.ledger k e) (told_has h.ledger k e)
                ∙ ap (λ (ms : List Change). performs ms (told_of h.ledger k)) (sym (recalled k z));
            site =
                one (is_told h.ledger k e) z ∙ ap (λ (ms : List Change). sent_all ms z) (sym (recalled k z))
                ∙ all_wait (brought h.ledger.edges (Remove e) (vault_by h.ledger h.keeping k z)) z t.0;
          },
          by (suc k) zs t.1,
        )

    vaults_then : vaults_from x.ledger x.keeping 0 x.sites ≡ send_each (map (brought h.ledger.edges (Remove e)) W.vaults) W.vaults
    vaults_then =
        ap (λ (ks : Keeping). vaults_from x.ledger ks 0 x.sites) gone.rest.keeping
        ∙ ap (vaults_from x.ledger h.keeping 0) (altered_each _ h.sites x.sites gone.sites)
        ∙ sends_each h.ledger h.keeping (brought h.ledger.edges (Remove e)) x.ledger _ 0 h.sites sends_recalls

    -- of an edge that the policy lacks nobody is told, and nothing is altered
    idle : has h.ledger.edges e ≡ false → W ≡ installation t x
    idle absent = made x h.ledger.edges W.vaults gone.rest.declared (gone.edges ∙ delete_absent e h.ledger.edges absent) (vaults_then ∙ nothing 0 h.sites)
      where
        no_message : (k : ℕ) (z : Site) → brought h.ledger.edges (Remove e) (vault_by h.ledger h.keeping k z) ≡ []
        no_message k z = recalled k z ∙ ap (λ (b : Bool). cond b (Remove e ∷ []) []) (untold h.ledger k e absent)

        nothing : (k : ℕ) (xs : List Site) → send_each (map (brought h.ledger.edges (Remove e)) (vaults_from h.ledger h.keeping k xs)) (vaults_from h.ledger h.keeping k xs)
            ≡ vaults_from h.ledger h.keeping k xs
        nothing k [] = refl
        nothing k (z ∷ zs) = by (nothing (suc k) zs)
          where
            here : send (brought h.ledger.edges (Remove e) (vault_by h.ledger h.keeping k z)) (vault_by h.ledger h.keeping k z) ≡ vault_by h.ledger h.keeping k z
            here =
                ap (λ (ms : List Change). send ms (vault_by h.ledger h.keeping k z)) (no_message k z)
                ∙ ap (λ (ws : List Change). vault_by h.ledger h.keeping k (with_waiting ws z)) (append_none z.waiting)

            by : send_each (map (brought h.ledger.edges (Remove e)) (vaults_from h.ledger h.keeping (suc k) zs)) (vaults_from h.ledger h.keeping (suc k) zs) ≡ vaults_from h.ledger h.keeping (suc k) zs
                → send_each (map (brought h.ledger.edges (Remove e)) (vaults_from h.ledger h.keeping k (z ∷ zs))) (vaults_from h.ledger h.keeping k (z ∷ zs)) ≡ vaults_from h.ledger h.keeping k (z ∷ zs)
            by ih = ap (λ (vs : List Vault). send (brought h.ledger.edges (Remove e) (vault_by h.ledger h.keeping k z)) (vault_by h.ledger h.keeping k z) ∷ vs) ih
                ∙ ap (λ (v : Vault). v ∷ vaults_from h.ledger h.keeping (suc k) zs) here

    pub withdrawn : Changed W (Remove e) (Ok tt) (installation t x)
    withdrawn = record { asked = asks_links (has h.ledger.edges e); left = left (has h.ledger.edges e) refl }
      where
        asks_links : (b : Bool) → first_no (cond b (at_each link_takes 0 W.vaults (map (brought h.ledger.edges (Remove e)) W.vaults)) []) ≡ None
        asks_links true = none_refuses h.ledger h.keeping (brought h.ledger.edges (Remove e)) 0 h.sites recalls
        asks_links false = refl

        left : (b : Bool) → has h.ledger.edges e ≡ b
            → cond b (with_policy (delete e h.ledger.edges) (send_each (map (brought h.ledger.edges (Remove e)) W.vaults) W.vaults) W) W ≡ installation t x
        left true q = made x (delete e h.ledger.edges) (send_each (map (brought h.ledger.edges (Remove e)) W.vaults) W.vaults) gone.rest.declared gone.edges vaults_then
        left false q = idle q

-- an edge that was entered stands in the policy
pub entered_ok : (D : List Change) (s : Edges) (e : Edge) → length D ≤ 128 → Proper D e → ltb (length s) 512 ≡ true → with_entry s e ≡ insert e s
entered_ok D s e few proper space =
    ap (λ (r : Result (Unit {0}) PolicyFault). after r) (accepted (is_edge e) (has s e) (ltb (length s) 512) (edge_by_number few proper) space)
  where
    after : Result (Unit {0}) PolicyFault → Edges
    after (Ok x) = insert e s
    after (Err f) = s

    accepted : (b h l : Bool) → b ≡ true → l ≡ true
        → ◌≡◌ {A = Result (Unit {0}) PolicyFault} (if not b then Err NoEdge else if h || l then Ok tt else Err Full) (Ok tt)
    accepted false h l p q = absurd (false≢true p)
    accepted true true l p q = refl
    accepted true false true p q = refl
    accepted true false false p q = absurd (false≢true q)
