-- No message is sent in vain: each alters what its vault is told, and a new edge leads to what is kept there.
use Rattle.std.proofs.Common.{◌≡◌, ℕ, ◌≤◌, Bool, true, false, cond, ◌⊎◌, List, [], ◌∷◌, All, map, length, sym, refl, ap, ◌∙◌, subst, inl, inr, arith}
use Rattle.std.proofs.lemmas.Bool.{both_ways, or_left, or_right}
use Rattle.std.proofs.lemmas.List.{append_cancel_left, length-append}
use Rattle.std.proofs.lemmas.List.Elements.{All-map, All-cons}
use Rattle.edges.specs.declared.edges.Edge.{Edge}
use Rattle.edges.specs.declared.edges.Change.{Change}
use Rattle.edges.specs.declared.edges.Change.TheVariants.{Add, Remove}
use Rattle.edges.specs.Edges.{same}
use Rattle.calls.specs.declared.call.Call.{Call}
use Rattle.calls.specs.declared.call.Call.TheVariants.{Declare, Keep, EndNaming, Seat, Open, Command, Apply, Deliver}
use Rattle.edge_sets.specs.EdgeSets.{Edges, has, insert, delete, perform, ◌∈◌, ◌∉◌}
use Rattle.edge_sets.proofs.Order.{same_refl}
use Rattle.edge_sets.proofs.Members.{delete_old}
use Rattle.links.specs.Links.{rest}
use Rattle.graph.specs.Paths.{UserPrivilege, Reach, Leads}
use Rattle.precedence.specs.Precedence.{Rule}
use Rattle.rules.specs.Installation.{Vault, Installation, with_policy, with_site, keeping}
use Rattle.rules.specs.Sending.{performs, Upper, Brings, Plan, send, send_each}
use Rattle.rules.specs.Questions.{alters}
use Rattle.rules.specs.Outcomes.{Answer, requested, Planned, changed, applied, delivered, after, Performs, accepts, refuses}
use Rattle.rules.specs.Laws.{Made, Needed, MessagesNeeded}
use Rattle.graph.proofs.Reaching.{reach_insert, reach_new}
use Rattle.rules.proofs.Messages.{adds_cases}
use Rattle.rules.proofs.Rounds.{Alongside, alongside_nth, alongside_same, alongside_update, alongside_sent}
use Rattle.rules.proofs.Vaults.{VaultInvariantHolds, unstruck}
use Rattle.rules.proofs.Invariant.{InvariantHolds}

abbrev Altering : Edges → List Change → Type 0
Altering t ms = All (λ m. ¬ Made m t) ms

-- a vault that hears nothing
quiet : (s : Edges) (v y : Vault) → y.told ≡ v.told → length y.site.waiting ≤ length v.site.waiting → Needed s v y
quiet s v y q l = record {
  altering = λ ms p k d b. let i = ap length p in let j = length-append v.site.waiting ms in absurd (omega arith);
  leading = λ e n h. absurd (both_ways (has v.told e) n (rw q at h));
}

unheard : (w : Installation) → Alongside (Needed w.policy) w.vaults w.vaults
unheard w = alongside_same (Needed w.policy) (λ v. quiet w.policy v v refl (omega arith)) w.vaults

-- additions
all_untold : (t b : Edges) → ((x : Edge) → x ∈ b → x ∉ t) → All (λ x. ¬ (x ∈ t)) b
all_untold t [] h = λ k d l. absurd (omega arith)
all_untold t (e ∷ b) h =
    All-cons (λ x. ¬ (x ∈ t)) e b (both_ways (has t e) (h e (or_left _ _ (same_refl e)))) (all_untold t b (λ x k. h x (or_right (same e x) (has b x) k)))

needed_adds : (s : Edges) (e : Edge) (v : Vault) (ms : List Change) → VaultInvariantHolds s v → Brings s (Add e) v ms → Needed (insert e s) v (send ms v)
needed_adds s e v ms g (b, l, q) = record {
  altering = λ ns p.
      subst (Altering v.told) (sym q ∙ append_cancel_left v.site.waiting ms ns p)
      (All-map (λ m. ¬ Made m v.told) Add b (all_untold v.told b (λ x h. ((l.1 x).0 h).2)));
  leading = λ x n h. new x n (adds_cases b v.told x (subst (λ (ns : List Change). x ∈ performs ns v.told) q h));
}
  where
    leads : (x : Edge) {p : ℕ} → Reach s e.to p → Upper s e x → Leads (insert e s) x p
    leads x r (inl k) = rw k (reach_insert e s r)
    leads x r (inr k) = reach_new e s k.1 r

    new : (x : Edge) → x ∉ v.told → (x ∈ b) ⊎ (x ∈ v.told) → (p : ℕ) × UserPrivilege p × (v.kept p ≡ true) × Leads (insert e s) x p
    new x n (inl h) = let d = (l.1 x).0 h in (d.0.0, g.keeps d.0.0 d.0.1, d.0.1, leads x d.0.2 d.1)
    new x n (inr h) = absurd (both_ways (has v.told x) n h)

-- withdrawals
needed_removes : (s t : Edges) (e : Edge) (v : Vault) (ms : List Change) → VaultInvariantHolds s v → Brings s (Remove e) v ms → Needed t v (send ms v)
needed_removes s t e v ms g q = by (has v.told e) refl q
  where
    by : (b : Bool) → has v.told e ≡ b → ms ≡ map Remove (cond b (e ∷ []) []) → Needed t v (send ms v)
    by true k q = record {
      altering = λ ns p.
          subst (Altering v.told) (sym q ∙ append_cancel_left v.site.waiting ms ns p)
          (All-cons (λ m. ¬ Made m v.told) (Remove e) [] (λ n. both_ways (has v.told e) n k) (λ i d l. absurd (omega arith)));
      leading = λ x n h. absurd (both_ways (has v.told x) n (delete_old e v.told x (subst (λ (ns : List Change). x ∈ performs ns v.told) q h)));
    }
    by false k q = quiet t v (send ms v) (ap (λ (ns : List Change). performs ns v.told) q)
        (let i = length-append v.site.waiting ms in let j = ap length q in omega arith)

needed_changed : (w : Installation) (c : Change) (mss : List (List Change)) → InvariantHolds w → Plan w.policy c w.vaults mss
    → Alongside (Needed (changed c mss w).policy) w.vaults (changed c mss w).vaults
needed_changed w c mss f plan = by (alters c w.policy)
  where
    sent : (c : Change) → Plan w.policy c w.vaults mss → Alongside (Needed (perform c w.policy)) w.vaults (send_each mss w.vaults)
    sent (Add e) plan = alongside_sent (VaultInvariantHolds w.policy) (Brings w.policy (Add e)) _ (needed_adds w.policy e) w.vaults mss f.each plan
    sent (Remove e) plan =
        alongside_sent (VaultInvariantHolds w.policy) (Brings w.policy (Remove e)) _ (needed_removes w.policy (delete e w.policy) e) w.vaults mss f.each plan

    by : (b : Bool) → let x : Installation = cond b (with_policy (perform c w.policy) (send_each mss w.vaults) w) w in Alongside (Needed x.policy) w.vaults x.vaults
    by true = sent c plan
    by false = unheard w

struck : (ms : List Change) → length (rest ms) ≤ length ms
struck [] = omega arith
struck (m ∷ ms) = omega arith

needed_after : (w : Installation) (c : Call) (mss : List (List Change)) → InvariantHolds w → Planned w (requested c) mss
    → Alongside (Needed (after w c mss).policy) w.vaults (after w c mss).vaults
needed_after w c mss f plan = by c plan
  where
    same_vault : (v : Vault) → Needed w.policy v v
    same_vault v = quiet w.policy v v refl (omega arith)

    by : (c : Call) → Planned w (requested c) mss → Alongside (Needed (after w c mss).policy) w.vaults (after w c mss).vaults
    by (Declare c) plan = unheard w
    by (Keep i p) plan = alongside_update _ (keeping p) same_vault (λ v. quiet w.policy v (keeping p v) refl (omega arith)) i w.vaults
    by EndNaming plan = unheard w
    by (Seat e) plan = needed_changed w (Add e) mss f plan
    by Open plan = unheard w
    by (Command u c) plan = needed_changed w c mss f plan
    by (Apply i) plan = alongside_update _ (with_site applied) same_vault
        (λ v. quiet w.policy v (with_site applied v) refl (let q = ap length (unstruck v.site.waiting v.site) in omega arith)) i w.vaults
    by (Deliver i) plan = alongside_update _ (with_site delivered) same_vault
        (λ v. quiet w.policy v (with_site delivered v) refl
        (let q = ap length (unstruck v.site.waiting v.site) in let l = struck (applied v.site).waiting in omega arith)) i w.vaults

pub messages_needed : {rule : Rule} {w x : Installation} {c : Call} {a : Answer} → InvariantHolds w → Performs rule w c a x → MessagesNeeded w x
messages_needed {w = w} {c = c} f (accepts mss plan y) i u v p q = alongside_nth _ w.vaults (after w c mss).vaults i (needed_after w c mss f plan) p q
messages_needed {w = w} f (refuses mss plan n) i u v p q = alongside_nth _ w.vaults w.vaults i (unheard w) p q
