-- Policy, told sets and settled tables are those of distributed administration as it is usually described.
use Rattle.std.proofs.Common.{◌≡◌, ℕ, Bool, true, false, cond, not, ◌≢◌, ◌⊎◌, ◌↔◌, List, [], ◌∷◌, map, Some, None, Ok, Err, Option, sym, refl, ap, ◌∙◌, subst, inl, inr, ⊎_elim}
use Rattle.std.proofs.lemmas.Bool.{false≢true, both_ways, cases_Bool}
use Rattle.edges.specs.declared.edges.Edge.{Edge}
use Rattle.edges.specs.declared.edges.Change.{Change}
use Rattle.edges.specs.declared.edges.Change.TheVariants.{Add, Remove}
use Rattle.edges.specs.Edges.{same}
use Rattle.calls.specs.declared.call.Call.{Call}
use Rattle.calls.specs.declared.call.Call.TheVariants.{Declare, Keep, EndNaming, Seat, Open, Command, Apply, Deliver}
use Rattle.rules.specs.declared.record.CallRecord.{CallRecord}
use Rattle.edge_sets.specs.EdgeSets.{Edges, has, insert, delete, ◌∈◌, ◌∉◌}
use Rattle.edge_sets.proofs.Order.{same_equal}
use Rattle.edge_sets.proofs.Members.{delete_old, delete_gone, delete_else, delete_absent}
use Rattle.edge_sets.proofs.Ascents.{insert_held}
use Rattle.graph.specs.Paths.{step}
use Rattle.precedence.specs.Precedence.{Rule}
use Rattle.rules.specs.Installation.{Vault, Installation, empty, begin, with_policy, with_site, keeping}
use Rattle.rules.specs.Sending.{performs, Brings, Plan, withdrawals, send, send_each}
use Rattle.rules.specs.Questions.{in_naming, AllYes, questions}
use Rattle.rules.specs.Outcomes.{Answer, value, requested, Planned, changed, applied, delivered, after, Performs, accepts, refuses}
use Rattle.rules.specs.Runs.{Run, ends, calls}
use Rattle.rules.specs.Distribution.{Concerned, UpperClosure, Spread, nowhere, spread, spread_accepted, spread_all, AsDistributed}
use Rattle.graph.proofs.Reaching.{reach_trans}
use Rattle.rules.proofs.Messages.{adds_old, adds_new, adds_cases}
use Rattle.rules.proofs.Rounds.{Every, every_nth, every_update, every_map, every_to, every_both, each_sent}
use Rattle.rules.proofs.Vaults.{VaultInvariantHolds}
use Rattle.rules.proofs.Invariant.{InvariantHolds, fine_performs, fine_run, fine_begin, seating_later, service_later}

-- what one vault is told
abbrev Told : Spread → Vault → Type 0
Told d v = (x : Edge) → x ∈ v.told ↔ d.part v.kept x

record Spreads (d : Spread) (w : Installation) : Type 0 where
  policy : w.policy ≡ d.policy
  fresh : in_naming w.stage ≡ true → (kept : ℕ → Bool) (x : Edge) → d.part kept x → ⊥
  each : Every (Told d) w.vaults

told_add : (d : Spread) (s : Edges) → s ≡ d.policy → (e : Edge) (v : Vault) (ms : List Change) → Told d v → Brings s (Add e) v ms → Told (spread (Add e) d) (send ms v)
told_add d s q e v ms a (b, l, p) x =
    (λ h. to (adds_cases b v.told x (subst (λ (ns : List Change). x ∈ performs ns v.told) p h)), λ k. subst (λ (ns : List Change). x ∈ performs ns v.told) (sym p) (from k))
  where
    Sent : Edges → Type 0
    Sent t = Concerned t v.kept e.to × UpperClosure t e x

    to : (x ∈ b) ⊎ (x ∈ v.told) → (spread (Add e) d).part v.kept x
    to (inl h) = let k = (l.1 x).0 h in inr (subst Sent q (k.0, k.1))
    to (inr h) = inl ((a x).0 h)

    due : Sent s → x ∈ performs (map Add b) v.told
    due k = ⊎_elim (adds_old b v.told x) (λ (h : x ∉ v.told). adds_new b v.told x ((l.1 x).1 (k.0, k.1, h))) (cases_Bool (has v.told x))

    from : (spread (Add e) d).part v.kept x → x ∈ performs (map Add b) v.told
    from (inl k) = adds_old b v.told x ((a x).1 k)
    from (inr k) = due (subst Sent (sym q) k)

-- an edge that is held already: all that is due was told before
told_held : (d : Spread) (s : Edges) → s ≡ d.policy → (e : Edge) → e ∈ s → (v : Vault) → VaultInvariantHolds s v × Told d v → Told (spread (Add e) d) v
told_held d s q e k v (g, a) x = (λ h. inl ((a x).0 h), from)
  where
    told : Concerned s v.kept e.to × UpperClosure s e x → x ∈ v.told
    told (c, inl p) = rw p (g.informed.complete e c.0 c.1 k c.2)
    told (c, inr p) = g.informed.complete x c.0 c.1 p.0 (reach_trans p.1 (step k c.2))

    from : (spread (Add e) d).part v.kept x → x ∈ v.told
    from (inl p) = (a x).1 p
    from (inr p) = told (subst (λ (t : Edges). Concerned t v.kept e.to × UpperClosure t e x) (sym q) p)

apart : (e x : Edge) → x ≢ e → same e x ≡ false
apart e x n = ⊎_elim (λ (q : same e x ≡ true). absurd (n (sym (same_equal e x q)))) (λ (q : same e x ≡ false). q) (cases_Bool (same e x))

-- a vault that is not told of e has no part in its withdrawal
told_absent : (d : Spread) (e : Edge) (v : Vault) → e ∉ v.told → Told d v → Told (spread (Remove e) d) v
told_absent d e v k a x = (λ h. ((a x).0 h, λ q. both_ways (has v.told e) k (rw q at h)), λ p. (a x).1 p.0)

told_remove : (d : Spread) (e : Edge) (v : Vault) → Told d v → Told (spread (Remove e) d) (send (withdrawals (e ∷ []) v) v)
told_remove d e v a x = by (has v.told e) refl
  where
    by : (t : Bool) → has v.told e ≡ t → x ∈ performs (map Remove (cond t (e ∷ []) [])) v.told ↔ (spread (Remove e) d).part v.kept x
    by true k = (
      λ h. ((a x).0 (delete_old e v.told x h), λ q. both_ways (has (delete e v.told) e) (delete_gone e v.told) (rw q at h)),
      λ p. delete_else e v.told x (apart e x p.1) ∙ (a x).1 p.0,
    )
    by false k = told_absent d e v k a x

-- a change that was accepted
spreads_changed : (d : Spread) (w : Installation) (c : Change) (mss : List (List Change)) → InvariantHolds w → (in_naming w.stage ≡ true → ⊥)
    → Plan w.policy c w.vaults mss → Spreads d w → Spreads (spread c d) (changed c mss w)
spreads_changed d w (Add e) mss f n plan a = by (has w.policy e) refl
  where
    by : (t : Bool) → has w.policy e ≡ t → Spreads (spread (Add e) d) (cond (not t) (with_policy (insert e w.policy) (send_each mss w.vaults) w) w)
    by true k = record {
      policy = sym (insert_held e w.policy f.ordered k) ∙ ap (insert e) a.policy;
      fresh = λ s. absurd (n s);
      each = every_to (λ v. VaultInvariantHolds w.policy v × Told d v) (Told (spread (Add e) d)) (told_held d w.policy a.policy e k) w.vaults
          (every_both (VaultInvariantHolds w.policy) (Told d) w.vaults f.each a.each);
    }
    by false k = record {
      policy = ap (insert e) a.policy;
      fresh = λ s. absurd (n s);
      each = each_sent (Told d) (Told (spread (Add e) d)) (Brings w.policy (Add e)) (told_add d w.policy a.policy e) w.vaults mss a.each plan;
    }
spreads_changed d w (Remove e) mss f n plan a = by (has w.policy e) refl
  where
    untold : (v : Vault) → e ∉ w.policy → VaultInvariantHolds w.policy v → e ∉ v.told
    untold v k g = ⊎_elim (λ (h : e ∈ v.told). absurd (both_ways (has w.policy e) k (g.informed.sound e h))) (λ (h : e ∉ v.told). h) (cases_Bool (has v.told e))

    by : (t : Bool) → has w.policy e ≡ t → Spreads (spread (Remove e) d) (cond t (with_policy (delete e w.policy) (send_each mss w.vaults) w) w)
    by true k = record {
      policy = ap (delete e) a.policy;
      fresh = λ s. absurd (n s);
      each = each_sent (Told d) (Told (spread (Remove e) d)) (Brings w.policy (Remove e)) (λ v ms t b. rw b (told_remove d e v t)) w.vaults mss a.each plan;
    }
    by false k = record {
      policy = sym (delete_absent e w.policy k) ∙ ap (delete e) a.policy;
      fresh = λ s. absurd (n s);
      each = every_to (λ v. VaultInvariantHolds w.policy v × Told d v) (Told (spread (Remove e) d)) (λ v g. told_absent d e v (untold v k g.0) g.1) w.vaults
          (every_both (VaultInvariantHolds w.policy) (Told d) w.vaults f.each a.each);
    }

spreads_after : (rule : Rule) (d : Spread) (w : Installation) (c : Call) (mss : List (List Change)) → InvariantHolds w → Planned w (requested c) mss
    → AllYes (questions rule w c mss) → Spreads d w → Spreads (spread_accepted (requested c) (Ok (value w c)) d) (after w c mss)
spreads_after rule d w (Declare c) mss f plan y a = record { policy = a.policy; fresh = a.fresh; each = a.each }
spreads_after rule d w (Keep i p) mss f plan y a = record {
  policy = a.policy;
  fresh = a.fresh;
  each = every_update (Told d) (keeping p)
      (λ v t x. (λ h. absurd (a.fresh y.0 v.kept x ((t x).0 h)), λ h. absurd (a.fresh y.0 (keeping p v).kept x h))) i w.vaults a.each;
}
spreads_after rule d w EndNaming mss f plan y a = record { policy = a.policy; fresh = λ k. a.fresh y.0; each = a.each }
spreads_after rule d w (Seat e) mss f plan y a = spreads_changed d w (Add e) mss f (seating_later w.stage y.0) plan a
spreads_after rule d w Open mss f plan y a = record { policy = a.policy; fresh = λ k. absurd (false≢true k); each = a.each }
spreads_after rule d w (Command u c) mss f plan y a = spreads_changed d w c mss f (service_later w.stage y.0) plan a
spreads_after rule d w (Apply i) mss f plan y a = record {
  policy = a.policy;
  fresh = a.fresh;
  each = every_update (Told d) (with_site applied) (λ v t. t) i w.vaults a.each;
}
spreads_after rule d w (Deliver i) mss f plan y a = record {
  policy = a.policy;
  fresh = a.fresh;
  each = every_update (Told d) (with_site delivered) (λ v t. t) i w.vaults a.each;
}

spreads_step : {rule : Rule} {w x : Installation} {c : Call} {a : Answer} (d : Spread) → InvariantHolds w → Performs rule w c a x → Spreads d w → Spreads (spread_accepted (requested c) a d) x
spreads_step {rule} {w} {c = c} d f (accepts mss plan y) s = spreads_after rule d w c mss f plan y s
spreads_step {w = w} {c = c} d f (refuses {f = g} mss plan n) s = by (requested c)
  where
    by : (o : Option Change) → Spreads (spread_accepted o (Err g) d) w
    by None = s
    by (Some b) = s

spreads_run : {rule : Rule} {w x : Installation} {h : List CallRecord} (d : Spread) → InvariantHolds w → Spreads d w → Run rule w h x → Spreads (spread_all h d) x
spreads_run d f s ends = s
spreads_run d f s (calls {c = c} {a = a} p r) = spreads_run (spread_accepted (requested c) a d) (fine_performs p f) (spreads_step d f p s) r

pub as_distributed : AsDistributed
as_distributed rule ls h w r = record {
  policy = s.policy;
  told = λ i v q. every_nth (Told (spread_all h nowhere)) w.vaults i s.each q;
  tables = λ i v q k x. settled v k (every_nth (VaultInvariantHolds w.policy) w.vaults i f.each q) (every_nth (Told (spread_all h nowhere)) w.vaults i s.each q) x;
}
  where
    f : InvariantHolds w
    f = fine_run (fine_begin ls) r

    begun : Spreads nowhere (begin ls)
    begun = record {
      policy = refl;
      fresh = λ k kept x p. p;
      each = every_map empty (Told nowhere) (λ l x. (λ h. false≢true h, λ p. absurd p)) ls;
    }

    s : Spreads (spread_all h nowhere) w
    s = spreads_run nowhere (fine_begin ls) begun r

    settled : (v : Vault) → v.site.waiting ≡ [] → VaultInvariantHolds w.policy v → Told (spread_all h nowhere) v → (x : Edge) → x ∈ v.site.table ↔ (spread_all h nowhere).part v.kept x
    settled v q g a x = let e : v.told ≡ v.site.table = rw q at g.carried.current in rw e at (a x)
