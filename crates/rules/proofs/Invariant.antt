-- What every call keeps of an installation.
use Rattle.std.proofs.Common.{◌≡◌, ℕ, ◌<◌, ◌≤◌, Bool, true, false, cond, ltb, List, [], ◌∷◌, ◌++◌, length, sym, refl, subst, inl, inr, ⊎_elim, arith}
use Rattle.std.proofs.lemmas.Bool.{false≢true, cases_lt, cases_Bool}
use Rattle.std.proofs.lemmas.List.{length-append}
use Rattle.edges.specs.declared.edges.Edge.{Edge}
use Rattle.edges.specs.declared.edges.Change.{Change}
use Rattle.edges.specs.declared.edges.Change.TheVariants.{Add, Remove}
use Rattle.edges.specs.Edges.{edge_of, vault_edge}
use Rattle.rules.specs.declared.fault.CentreFault.TheVariants.{TooDeep, NamesFull}
use Rattle.calls.specs.declared.call.Call.{Call}
use Rattle.calls.specs.declared.call.Call.TheVariants.{Declare, Keep, EndNaming, Seat, Open, Command, Apply, Deliver}
use Rattle.rules.specs.declared.record.CallRecord.{CallRecord}
use Rattle.edge_sets.specs.EdgeSets.{Edges, Ascending, insert, delete, perform}
use Rattle.edge_sets.proofs.Members.{insert_cases, delete_old, length_delete_most}
use Rattle.edge_sets.proofs.Ascents.{insert_ascending, delete_ascending}
use Rattle.graph.specs.Paths.{Reach}
use Rattle.privileges.specs.Privileges.{Proper, Shallow, declared, declaring, is_shallow}
use Rattle.precedence.specs.Precedence.{Rule, IsWellFormed}
use Rattle.rules.specs.Installation.{Vault, Stage, naming, seating, service, Installation, Limits, empty, begin, at_stage, with_vaults, with_policy, with_site, keeping, update}
use Rattle.rules.specs.Sending.{Due, Upper, Brings, Each, Plan, send, send_each}
use Rattle.rules.specs.Questions.{HasStoreRoom, HasLinkRoom, in_naming, in_seating, in_service, asks, AllYes, at_each, store_room, link_room, link_takes, alters, room, for_change, questions}
use Rattle.rules.specs.Outcomes.{Answer, requested, Planned, changed, applied, delivered, after, Performs, accepts, refuses}
use Rattle.rules.specs.Runs.{Run, ends, calls}
use Rattle.privileges.proofs.Declared.{some_none, declared_at, nth_declaring, proper_declaring, shallow_declaring, Single, single_declaring, vault_of}
use Rattle.precedence.proofs.Covering.{Sound, stays}
use Rattle.precedence.proofs.Covering as covering
use Rattle.rules.proofs.Messages.{insert_most}
use Rattle.rules.proofs.Asking.{yes_append, each_yes}
use Rattle.rules.proofs.Rounds.{Every, every_update, every_map, each_both, each_sent}
use Rattle.rules.proofs.Vaults.{VaultInvariantHolds, good_add, good_remove, good_applied, good_delivered, good_keep, good_empty}

pub record InvariantHolds (w : Installation) : Type 0 where
  pub formed : IsWellFormed w.declared w.policy
  -- nothing is held before seating
  pub fresh : in_naming w.stage ≡ true → w.policy ≡ []
  pub ordered : Ascending w.policy
  pub few_edges : length w.policy ≤ 512
  pub few_names : length w.declared ≤ 128
  pub single : Single w.declared
  pub each : Every (VaultInvariantHolds w.policy) w.vaults

-- what is due at a vault are vault edges
low_end : {D : List Change} {s : Edges} → Sound D s → {x y : ℕ} → Reach s x y → y < 256 → x < 256
low_end h {x} {y} r l = ⊎_elim (λ (k : x < 256). k) (λ (k : 256 ≤ x). let q : x ≡ y = stays h (omega arith) r in absurd (omega arith)) (cases_lt x 256)

pub due_vault : {D : List Change} {s : Edges} {e : Edge} → Sound D s → Proper D e → (v : Vault) → VaultInvariantHolds s v → (x : Edge) → Due s e v x → vault_edge x ≡ true
due_vault {D} {s} {e} h p v g x d = by d.1
  where
    by : Upper s e x → vault_edge x ≡ true
    by (inl q) = rw q (vault_of p (low_end h d.0.2 (g.keeps d.0.0 d.0.1).1))
    by (inr q) = let k = (covering.ends p).0 in vault_of (h x q.0) (low_end h q.1 (omega arith))

-- a change of the policy that has been asked its questions
abbrev pub Roomy : Vault → List Change → Type 0
Roomy v ms = HasStoreRoom v ms × HasLinkRoom v ms

pub room_each : (w : Installation) (e : Edge) (mss : List (List Change)) → Plan w.policy (Add e) w.vaults mss → AllYes (room w (Add e) mss) → Each Roomy w.vaults mss
room_each w e mss plan y =
    let z = yes_append (at_each store_room 0 w.vaults mss) (at_each link_room 0 w.vaults mss) y.1 in
    each_both HasStoreRoom HasLinkRoom w.vaults mss
    (each_yes store_room (Brings w.policy (Add e)) HasStoreRoom (λ i v ms k. k.0) 0 w.vaults mss plan z.0)
    (each_yes link_room (Brings w.policy (Add e)) HasLinkRoom (λ i v ms k. k.0) 0 w.vaults mss plan z.1)

fine_carried : (w : Installation) (c : Change) (mss : List (List Change)) → (in_naming w.stage ≡ true → ⊥) → Proper w.declared (edge_of c)
    → Plan w.policy c w.vaults mss → AllYes (room w c mss) → InvariantHolds w → InvariantHolds (with_policy (perform c w.policy) (send_each mss w.vaults) w)
fine_carried w (Add e) mss n p plan y f = record {
  formed = record {
    held = λ x h. ⊎_elim (λ (q : e ≡ x). rw q at p) (f.formed.held x) (insert_cases e w.policy x h);
    names = f.formed.names;
    depths = f.formed.depths;
  };
  fresh = λ k. absurd (n k);
  ordered = insert_ascending e w.policy f.ordered;
  few_edges = let k = insert_most e w.policy f.ordered in let l = y.0 in omega arith;
  few_names = f.few_names;
  single = f.single;
  each = each_sent (VaultInvariantHolds w.policy) (VaultInvariantHolds (insert e w.policy)) (λ v ms. Roomy v ms × Brings w.policy (Add e) v ms) one w.vaults mss f.each
      (each_both Roomy (Brings w.policy (Add e)) w.vaults mss (room_each w e mss plan y) plan);
}
  where
    one : (v : Vault) (ms : List Change) → VaultInvariantHolds w.policy v → Roomy v ms × Brings w.policy (Add e) v ms → VaultInvariantHolds (insert e w.policy) (send ms v)
    one v ms g (r, b) =
        rw b.2 (good_add w.policy e v b.0 (due_vault f.formed.held p v g) b.1
        (subst (HasStoreRoom v) b.2 r.0) (subst (HasLinkRoom v) b.2 r.1) g)
fine_carried w (Remove e) mss n p plan y f = record {
  formed = record {
    held = λ x h. f.formed.held x (delete_old e w.policy x h);
    names = f.formed.names;
    depths = f.formed.depths;
  };
  fresh = λ k. absurd (n k);
  ordered = delete_ascending e w.policy f.ordered;
  few_edges = let k = length_delete_most e w.policy in let l = f.few_edges in omega arith;
  few_names = f.few_names;
  single = f.single;
  each = each_sent (VaultInvariantHolds w.policy) (VaultInvariantHolds (delete e w.policy)) (Brings w.policy (Remove e)) (λ v ms g b. rw b (good_remove w.policy e v g)) w.vaults mss f.each plan;
}

fine_changed : (w : Installation) (c : Change) (mss : List (List Change)) → (in_naming w.stage ≡ true → ⊥) → Proper w.declared (edge_of c)
    → Plan w.policy c w.vaults mss → AllYes (for_change w c mss) → InvariantHolds w → InvariantHolds (changed c mss w)
fine_changed w c mss n p plan y f = by (alters c w.policy) y
  where
    by : (b : Bool) → AllYes (cond b (room w c mss ++ at_each link_takes 0 w.vaults mss) [])
        → InvariantHolds (cond b (with_policy (perform c w.policy) (send_each mss w.vaults) w) w)
    by true y = fine_carried w c mss n p plan (yes_append (room w c mss) (at_each link_takes 0 w.vaults mss) y).0 f
    by false y = f

-- stages
pub seating_later : (t : Stage) → in_seating t ≡ true → in_naming t ≡ true → ⊥
seating_later naming h k = false≢true h
seating_later seating h k = false≢true k
seating_later service h k = false≢true k

pub service_later : (t : Stage) → in_service t ≡ true → in_naming t ≡ true → ⊥
service_later naming h k = false≢true h
service_later seating h k = false≢true k
service_later service h k = false≢true k

fine_vaults : (w : Installation) (vs : List Vault) → InvariantHolds w → Every (VaultInvariantHolds w.policy) vs → InvariantHolds (with_vaults vs w)
fine_vaults w vs f e = record
    { formed = f.formed; fresh = f.fresh; ordered = f.ordered; few_edges = f.few_edges; few_names = f.few_names; single = f.single; each = e }

fine_stage : (t : Stage) (w : Installation) → InvariantHolds w → (in_naming t ≡ true → w.policy ≡ []) → InvariantHolds (at_stage t w)
fine_stage t w f h = record
    { formed = f.formed; fresh = h; ordered = f.ordered; few_edges = f.few_edges; few_names = f.few_names; single = f.single; each = f.each }

-- declaring
few_declaring : (D : List Change) (c : Change) → length D ≤ 128 → (declared D c ≡ false → length D < 128) → length (declaring D c) ≤ 128
few_declaring D c l h = by (declared D c) refl
  where
    by : (b : Bool) → declared D c ≡ b → length (cond b D (D ++ (c ∷ []))) ≤ 128
    by true q = l
    by false q = let k = h q in let m = length-append D (c ∷ []) in omega arith

fine_after : (rule : Rule) (w : Installation) (c : Call) (mss : List (List Change)) → Planned w (requested c) mss
    → AllYes (questions rule w c mss) → InvariantHolds w → InvariantHolds (after w c mss)
fine_after rule w (Declare c) mss plan y f = record {
  formed = record {
    held = λ e h. proper_declaring w.declared c (f.formed.held e h);
    names = λ i d h. proper_declaring w.declared c (⊎_elim (f.formed.names i d) (λ (q : c ≡ d). rw q at y.1.0) (nth_declaring w.declared c i d h));
    depths = λ i d h. shallow_declaring w.declared c (⊎_elim (f.formed.depths i d) (λ (q : c ≡ d). subst (Shallow w.declared 8) q shallow) (nth_declaring w.declared c i d h));
  };
  fresh = f.fresh;
  ordered = f.ordered;
  few_edges = f.few_edges;
  few_names = few_declaring w.declared c f.few_names (λ q. (asked (declared w.declared c) q y.1.1).1);
  single = single_declaring w.declared c f.single;
  each = f.each;
}
  where
    asked : (b : Bool) → b ≡ false
        → AllYes (cond b [] (asks TooDeep (Shallow w.declared 8 c) (is_shallow w.declared 8 c) ∷ asks NamesFull (length w.declared < 128) (ltb (length w.declared) 128) ∷ []))
        → Shallow w.declared 8 c × (length w.declared < 128)
    asked true q y = absurd (false≢true (sym q))
    asked false q y = (y.0, y.1.0)

    shallow : Shallow w.declared 8 c
    shallow =
        ⊎_elim
        (λ (q : declared w.declared c ≡ true). let k = declared_at w.declared c q in f.formed.depths k.0 c k.1)
        (λ (q : declared w.declared c ≡ false). (asked (declared w.declared c) q y.1.1).0)
        (cases_Bool (declared w.declared c))
fine_after rule w (Keep i p) mss plan y f =
    fine_vaults w (update i (keeping p) w.vaults) f
    (every_update (VaultInvariantHolds w.policy) (keeping p) (good_keep p w.policy (f.fresh y.0) y.1.1.0) i w.vaults f.each)
fine_after rule w EndNaming mss plan y f = fine_stage seating w f (λ k. f.fresh y.0)
fine_after rule w (Seat e) mss plan y f = fine_changed w (Add e) mss (seating_later w.stage y.0) y.1.0 plan y.1.1 f
fine_after rule w Open mss plan y f = fine_stage service w f (λ k. absurd (false≢true k))
fine_after rule w (Command u c) mss plan y f = fine_changed w c mss (service_later w.stage y.0) y.1.1.0 plan y.1.1.1.1 f
fine_after rule w (Apply i) mss plan y f =
    fine_vaults w (update i (with_site applied) w.vaults) f
    (every_update (VaultInvariantHolds w.policy) (with_site applied) (good_applied w.policy) i w.vaults f.each)
fine_after rule w (Deliver i) mss plan y f =
    fine_vaults w (update i (with_site delivered) w.vaults) f
    (every_update (VaultInvariantHolds w.policy) (with_site delivered) (good_delivered w.policy) i w.vaults f.each)

pub fine_performs : {rule : Rule} {w x : Installation} {c : Call} {a : Answer} → Performs rule w c a x → InvariantHolds w → InvariantHolds x
fine_performs {rule} {w} {c = c} (accepts mss plan y) f = fine_after rule w c mss plan y f
fine_performs (refuses mss plan n) f = f

pub fine_run : {rule : Rule} {w x : Installation} {h : List CallRecord} → InvariantHolds w → Run rule w h x → InvariantHolds x
fine_run f ends = f
fine_run f (calls p r) = fine_run (fine_performs p f) r

pub fine_begin : (ls : List Limits) → InvariantHolds (begin ls)
fine_begin ls = record {
  formed = record { held = λ e h. absurd (false≢true h); names = λ i c h. absurd (some_none h); depths = λ i c h. absurd (some_none h) };
  fresh = λ k. refl;
  ordered = refl;
  few_edges = omega arith;
  few_names = omega arith;
  single = λ i j c p q. absurd (some_none p);
  each = every_map empty (VaultInvariantHolds []) good_empty ls;
}
