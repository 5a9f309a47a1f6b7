-- Calls one after another, and the laws of what they bring about.
use Rattle.std.proofs.Common.{◌≡◌, ℕ, zero, suc, ◌+◌, ◌<◌, ◌≤◌, Bool, false, List, [], ◌∷◌, ◌++◌, map, length, take, set, filter, All, Ok, Err, inl, inr, sym, refl, ap, ◌∙◌, subst, arith}
use mathlib.Core.Path.{fun_ext}
use Rattle.std.proofs.lemmas.List.{take_more_set, map-append, take_all}
use Rattle.edges.specs.declared.edges.Change.{Change}
use Rattle.calls.specs.declared.call.Call.{Call}
use Rattle.rules.specs.declared.record.CallRecord.{CallRecord}
use Rattle.edge_sets.specs.EdgeSets.{Edges}
use Rattle.vaults.specs.Sites.{Site, site_at}
use Rattle.vaults.specs.Fitness.{IsFitSite}
use Rattle.precedence.specs.Precedence.{Rule, IsLawful}
use Rattle.rules.specs.Installation.{Vault, naming, Installation, empty, begin}
use Rattle.rules.specs.Outcomes.{Answer, Performs, outcome}
use Rattle.rules.specs.Runs.{recorded, Run, ends, calls, Reached}
use Rattle.rules.proofs.Deciding.{fine_computed}
use Rattle.rules.proofs.Administration.{reached_fine, books_hold, administration_holds}
use Rattle.rules.proofs.Distribution.{as_distributed}
use Rattle.policy.specs.declared.keeping.Keeping.{Keeping}
use Rattle.policy.specs.Keepings.{keeps}
use Rattle.policy.specs.Ledgers.{Ledger, is_told, told_of}
use Rattle.centre.specs.Sayings.{Ends}
use Rattle.centre.specs.Worked.{Works}
use Rattle.centre.specs.Holding.{vault_by, vaults_from, installation}
use Rattle.centre.specs.Promises.{Kept, OwnAnswer, limits_of, RunFrom}

module _ {rule : Rule} where
  -- one call more
  pub run_more : {s w x : Installation} {c : Call} {a : Answer} {h : List CallRecord} → Run rule s h w → Performs rule w c a x
      → Run rule s (h ++ (recorded c a ∷ [])) x
  run_more ends p = calls p ends
  run_more (calls q r) p = calls q (run_more r p)

  pub reached_more : {w x : Installation} {c : Call} {a : Answer} → Reached rule w → Performs rule w c a x → Reached rule x
  reached_more r p = (r.0, r.1 ++ (recorded _ _ ∷ []), run_more r.2 p)

-- what a call ends in is what the rules say, and the only thing
pub ends_performs : (rule : Rule) (w : Installation) (c : Call) (a : Answer) (x : Installation) → Reached rule w → Ends rule w c a x → Performs rule w c a x
ends_performs rule w c a x r e =
    subst (λ (y : Installation). Performs rule w c a y) e.then
    (subst (λ (b : Answer). Performs rule w c b (outcome rule w c).then) e.answer (fine_computed rule w c (reached_fine r)).performs)

pub laws_kept : (rule : Rule) → IsLawful rule → (w : Installation) → Reached rule w → Kept rule w
laws_kept rule law w r =
    let a = administration_holds rule law w r in
    record {
      tables_follow = a.tables;
      nobody_held_up = a.held_up;
      gains_nothing = a.gains;
      messages_needed = a.messages;
      as_distributed = λ ls h run. as_distributed rule ls h w run;
      books = books_hold rule w r;
    }

-- The beginning

none_long : {A : Type 0} (xs : List A) → length xs ≡ 0 → xs ≡ []
none_long [] q = refl
none_long (x ∷ xs) q = absurd (omega arith)

begins_with : (l : Ledger) (ks : Keeping) → l.edges ≡ [] → ((k p : ℕ) → keeps ks k p ≡ false) → (k : ℕ) (xs : List Site)
    → ((v : ℕ) → v < length xs → IsFitSite (site_at xs v)) → vaults_from l ks k xs ≡ map empty (map limits_of xs)
begins_with l ks e n k [] f = refl
begins_with l ks e n k (x ∷ xs) f = by (begins_with l ks e n (suc k) xs (λ v m. f (suc v) (omega arith)))
  where
    here : vault_by l ks k x ≡ empty (limits_of x)
    here =
        let q = f 0 (omega arith) in
        ap (λ (g : ℕ → Bool). record { kept = g; told = told_of l k; site = x }) (fun_ext (n k))
        ∙ ap (λ (s : Edges). record { kept = λ p. false; told = filter (is_told l k) s; site = x }) e
        ∙ ap (λ (ws : List Change). record { kept = λ p. false; told = []; site = record { waiting = ws; link_limit = x.link_limit; table = x.table; store_limit = x.store_limit } }) (none_long x.waiting q.nothing_waits)
        ∙ ap (λ (s : Edges). record { kept = λ p. false; told = []; site = record { waiting = []; link_limit = x.link_limit; table = s; store_limit = x.store_limit } }) (none_long x.table q.nothing_held)

    by : vaults_from l ks (suc k) xs ≡ map empty (map limits_of xs) → vaults_from l ks k (x ∷ xs) ≡ map empty (map limits_of (x ∷ xs))
    by ih = ap (λ (v : Vault). v ∷ vaults_from l ks (suc k) xs) here ∙ ap (λ (vs : List Vault). empty (limits_of x) ∷ vs) ih

fit_each : (bank xs : List Site) → Works bank xs → (v : ℕ) → v < length xs → IsFitSite (site_at xs v)
fit_each bank xs (inl w) v l = let q = w.1 in subst (λ (ys : List Site). IsFitSite (site_at ys v)) (sym q) (w.0.each v (let m = ap length q in omega arith))
fit_each bank xs (inr w) v l = let q = ap length w.1 in absurd (omega arith)

module _ {R : Type 0} (rule : R) (l : Ledger) (ks : Keeping) (bank xs : List Site) (works : Works bank xs) (e : l.edges ≡ []) (n : (k p : ℕ) → keeps ks k p ≡ false) where
  pub begun : installation naming (record { rule = rule; declared = []; ledger = l; keeping = ks; sites = xs }) ≡ begin (map limits_of xs)
  begun =
      ap (λ (s : Edges). record { stage = naming; declared = []; policy = s; vaults = vaults_from l ks 0 xs }) e
      ∙ ap (λ (vs : List Vault). record { stage = naming; declared = []; policy = []; vaults = vs }) (begins_with l ks e n 0 xs (fit_each bank xs works))

  pub run_from : (r : Rule) (D : List Change) → D ≡ [] → RunFrom r bank [] (installation naming (record { rule = rule; declared = D; ledger = l; keeping = ks; sites = xs }))
  run_from r D q =
      let w = ap (λ (E : List Change). installation naming (record { rule = rule; declared = E; ledger = l; keeping = ks; sites = xs })) q ∙ begun in
      record { worked = xs; works = works; run = subst (λ (w : Installation). Run r (begin (map limits_of xs)) [] w) (sym w) ends }

pub run_from_reached : (rule : Rule) (bank : List Site) (h : List CallRecord) (w : Installation) → RunFrom rule bank h w → Reached rule w
run_from_reached rule bank h w r = (map limits_of r.worked, h, r.run)

-- no answer of a run is a link's or a store's refusal
pub own_answers : (rule : Rule) → IsLawful rule → {w x : Installation} {h : List CallRecord} → Reached rule w → Run rule w h x → All OwnAnswer h
own_answers rule law r ends k d l = absurd (omega arith)
own_answers rule law {w} r (calls {x = y} {c = c} {a = a} p q) zero d l = by a p
  where
    by : (a : Answer) → Performs rule w c a y → OwnAnswer (recorded c a)
    by (Ok n) p = tt
    by (Err f) p = (administration_holds rule law w r).held_up.refusals c f y p
own_answers rule law {w} r (calls {x = y} {c = c} {a = a} p q) (suc k) d l = own_answers rule law (reached_more r p) q k d (omega arith)

pub run_answers : (rule : Rule) → IsLawful rule → (bank : List Site) (h : List CallRecord) (w : Installation) → RunFrom rule bank h w → All OwnAnswer h
run_answers rule law bank h w r = own_answers rule law (map limits_of r.worked, [], ends) r.run

-- Going through a list of records, and writing each answer in its place

module _ {A : Type 0} (f : A → CallRecord) (rule : Rule) (s w x : Installation) (xs : List A) (i : ℕ) (l : i < length xs) where
  pub run_on : Run rule s (map f (take i xs)) w → (c : Call) (a : Answer) → Performs rule w c a x → (y : A) → f y ≡ recorded c a
      → Run rule s (map f (take (i + 1) (set xs i y))) x
  run_on r c a p y q =
      subst (λ (h : List CallRecord). Run rule s h x) (sym (ap (map f) (take_more_set xs i y l) ∙ map-append f (take i xs) (y ∷ []) ∙ ap (λ (z : CallRecord). map f (take i xs) ++ (z ∷ [])) q))
      (run_more r p)

pub run_all : {A : Type 0} (f : A → CallRecord) (rule : Rule) (s w : Installation) (xs : List A) (i : ℕ) → length xs ≤ i → Run rule s (map f (take i xs)) w → Run rule s (map f xs) w
run_all f rule s w xs i l r = subst (λ (ys : List _). Run rule s (map f ys) w) (take_all i xs l) r

-- the same from the beginning on, where the records are calls

map_same : (h : List CallRecord) → map (λ r. r) h ≡ h
map_same [] = refl
map_same (r ∷ h) = ap (λ (t : List CallRecord). r ∷ t) (map_same h)

pub run_from_on : (rule : Rule) (bank : List Site) (w x : Installation) (xs : List CallRecord) (i : ℕ) → i < length xs → RunFrom rule bank (take i xs) w
    → (c : Call) (a : Answer) → Performs rule w c a x → RunFrom rule bank (take (i + 1) (set xs i (recorded c a))) x
run_from_on rule bank w x xs i l r c a p = record {
  worked = r.worked;
  works = r.works;
  run = subst (λ (h : List CallRecord). Run rule (begin (map limits_of r.worked)) h x) (map_same (take (i + 1) (set xs i (recorded c a))))
      (run_on (λ r. r) rule (begin (map limits_of r.worked)) w x xs i l (subst (λ (h : List CallRecord). Run rule (begin (map limits_of r.worked)) h w) (sym (map_same (take i xs))) r.run)
      c a p (recorded c a) refl);
}

pub run_from_all : (rule : Rule) (bank : List Site) (w : Installation) (xs : List CallRecord) (i : ℕ) → length xs ≤ i → RunFrom rule bank (take i xs) w → RunFrom rule bank xs w
run_from_all rule bank w xs i l r = subst (λ (h : List CallRecord). RunFrom rule bank h w) (take_all i xs l) r

-- by a rule that is the same
pub performs_by : {R : Type 0} (over : R → Rule) {r q : R} {w x : Installation} {c : Call} {a : Answer} → r ≡ q → Performs (over r) w c a x → Performs (over q) w c a x
performs_by over {w = w} {x = x} {c = c} {a = a} e p = subst (λ r. Performs (over r) w c a x) e p
