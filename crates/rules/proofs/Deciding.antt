-- Every question is decided by its test, and a call has one outcome, the computed one.
use Rattle.std.proofs.Common.{◌≡◌, ℕ, ◌+◌, Bool, true, false, cond, not, ◌||◌, ◌⊎◌, List, [], ◌∷◌, ◌++◌, map, length, Some, None, Ok, Err, filter, Option, Result, sym, refl, ap, ◌∙◌, subst, inl, inr, ⊎_elim}
use Rattle.std.proofs.lemmas.Bool.{false≢true, both_ways, or_cases, or_left, or_right}
use Rattle.edges.specs.declared.edges.Edge.{Edge}
use Rattle.edges.specs.declared.edges.Change.{Change}
use Rattle.edges.specs.declared.edges.Change.TheVariants.{Add, Remove}
use Rattle.edges.specs.Edges.{edge_of, same}
use Rattle.rules.specs.declared.fault.CentreFault.{CentreFault}
use Rattle.rules.specs.declared.fault.CentreFault.TheVariants.{Link, Store}
use Rattle.calls.specs.declared.call.Call.{Call}
use Rattle.calls.specs.declared.call.Call.TheVariants.{Declare, Keep, EndNaming, Seat, Open, Command, Apply, Deliver}
use Rattle.edge_sets.specs.EdgeSets.{Edges, Ascending, has, insert, ◌∈◌, ◌∉◌}
use Rattle.edge_sets.proofs.Order.{same_refl, same_equal}
use Rattle.edge_sets.proofs.Members.{insert_new, insert_old, insert_cases}
use Rattle.edge_sets.proofs.Ascents.{asc_cons, asc_step, asc_tail, asc_skip, insert_ascending, ascending_unique}
use Rattle.vaults.specs.Sites.{Site}
use Rattle.graph.specs.Paths.{UserPrivilege, Reach, reaches}
use Rattle.privileges.specs.Privileges.{declared}
use Rattle.precedence.specs.Precedence.{Rule}
use Rattle.rules.specs.Installation.{Vault, Installation, begin, vault_at}
use Rattle.rules.specs.Sending.{Lists, Upper, Due, Brings, Plan, taken, is_due, due, brought}
use Rattle.graph.specs.Paths.{Concerns, concerns}
use Rattle.rules.specs.Questions.{Question, asks, AllYes, FirstNo, first_no, belongs, at_each, store_room, link_room, refused_by, link_takes, alters, room, for_change, head_answer, for_head, own_questions, questions}
use Rattle.rules.specs.Outcomes.{Answer, requested, Planned, after, Performs, accepts, refuses, plan, decided, outcome}
use Rattle.rules.specs.Runs.{Run, ends, calls, records, played}
use Rattle.rules.specs.Laws.{Computed, CallsComputed}
use Rattle.edge_sets.proofs.Decisions.{Decides, both, either, itself, denies, less, at_most}
use Rattle.graph.proofs.Reaching.{paths_decided}
use Rattle.graph.proofs.Concerns.{Below, concerns_decides}
use Rattle.precedence.proofs.Authorisation.{authorised_decides}
use Rattle.graph.proofs.Vertices.{user_privilege_decides}
use Rattle.privileges.proofs.Declared.{some_equal, some_none, proper_decides, shallow_decides}
use Rattle.rules.proofs.Asking.{none_refused, one_refusal, Asked, asked_append, asked_each, asked_cond}
use Rattle.rules.proofs.Rounds.{Every, every_to}
use Rattle.rules.proofs.Vaults.{VaultInvariantHolds}
use Rattle.rules.proofs.Invariant.{InvariantHolds, fine_run, fine_begin, fine_performs}

-- the edges due
pub kept_has : (f : Edge → Bool) (s : Edges) (x : Edge) → Decides (has (filter f s) x) ((x ∈ s) × (f x ≡ true))
kept_has f [] x = (λ h. absurd (false≢true h), λ p. p.0)
kept_has f (e ∷ s) x = by (f e) refl (kept_has f s x)
  where
    moved : (b : Bool) → same e x ≡ true → f e ≡ b → f x ≡ b
    moved b h q = subst (λ (y : Edge). f y ≡ b) (same_equal e x h) q

    by : (b : Bool) → f e ≡ b → Decides (has (filter f s) x) ((x ∈ s) × (f x ≡ true))
        → Decides (has (cond b (e ∷ filter f s) (filter f s)) x) ((x ∈ (e ∷ s)) × (f x ≡ true))
    by true q ih = (
      λ h. ⊎_elim (λ (k : same e x ≡ true). (or_left (same e x) (has s x) k, moved true k q))
          (λ (k : x ∈ filter f s). (or_right (same e x) (has s x) (ih.0 k).0, (ih.0 k).1)) (or_cases (same e x) (has (filter f s) x) h),
      λ p. ⊎_elim (or_left (same e x) (has (filter f s) x)) (λ (k : x ∈ s). or_right (same e x) (has (filter f s) x) (ih.1 (k, p.1))) (or_cases (same e x) (has s x) p.0),
    )
    by false q ih = (
      λ h. (or_right (same e x) (has s x) (ih.0 h).0, (ih.0 h).1),
      λ p. ⊎_elim (λ (k : same e x ≡ true). absurd (both_ways (f x) (moved false k q) p.1)) (λ (k : x ∈ s). ih.1 (k, p.1)) (or_cases (same e x) (has s x) p.0),
    )

pub cons_kept : (f : Edge → Bool) (d : Edge) (s : Edges) → Ascending (d ∷ s) → Ascending (d ∷ filter f s)
cons_kept f d [] h = refl
cons_kept f d (x ∷ s) h = by (f x) (cons_kept f d s (asc_skip d x s h)) (cons_kept f x s (asc_tail d (x ∷ s) h))
  where
    by : (a : Bool) → Ascending (d ∷ filter f s) → Ascending (x ∷ filter f s) → Ascending (d ∷ cond a (x ∷ filter f s) (filter f s))
    by true i j = asc_cons d x (filter f s) (asc_step d x s h).0 j
    by false i j = i

pub kept_ascending : (f : Edge → Bool) (s : Edges) → Ascending s → Ascending (filter f s)
kept_ascending f [] h = refl
kept_ascending f (x ∷ s) h = by (f x) (kept_ascending f s (asc_tail x s h)) (cons_kept f x s h)
  where
    by : (a : Bool) → Ascending (filter f s) → Ascending (x ∷ filter f s) → Ascending (cond a (x ∷ filter f s) (filter f s))
    by true i j = j
    by false i j = i

-- the vaults keep user privileges only
abbrev pub Keeps : Vault → Type 0
Keeps v = (p : ℕ) → v.kept p ≡ true → UserPrivilege p

pub due_lists : (s : Edges) (e : Edge) (v : Vault) → Ascending s → Keeps v → Lists (due s e v) (Due s e v)
due_lists s e v asc keeps = by (concerns s v.kept e.to 256) refl
  where
    R : Decides (concerns s v.kept e.to 256) (Below s v.kept e.to 256)
    R = concerns_decides s v.kept e.to 256

    passes : (x : Edge) → Decides (is_due s e v x) ((x ∉ v.told) × ((e ≡ x) ⊎ Reach s x.to e.from))
    passes x = both (not (has v.told x)) (same e x || reaches s x.to e.from) (denies (has v.told x))
        (either (same e x) (reaches s x.to e.from) (same_equal e x, λ q. rw q (same_refl x)) (paths_decided s x.to e.from))

    by : (b : Bool) → concerns s v.kept e.to 256 ≡ b → Lists (cond b (filter (is_due s e v) (insert e s)) []) (Due s e v)
    by true q = (kept_ascending (is_due s e v) (insert e s) (insert_ascending e s asc), λ x. (to x, from x))
      where
        upper : (x : Edge) → (e ≡ x) ⊎ (x ∈ s) → (e ≡ x) ⊎ Reach s x.to e.from → Upper s e x
        upper x (inl p) r = inl (sym p)
        upper x (inr p) (inl r) = inl (sym r)
        upper x (inr p) (inr r) = inr (p, r)

        to : (x : Edge) → x ∈ filter (is_due s e v) (insert e s) → Due s e v x
        to x h =
            let k = (kept_has (is_due s e v) (insert e s) x).0 h in
            let p = (passes x).0 k.1 in
            let c = R.0 q in
            ((c.0, c.2, c.3), upper x (insert_cases e s x k.0) p.1, p.0)

        lower : (x : Edge) → Upper s e x → (x ∈ insert e s) × ((e ≡ x) ⊎ Reach s x.to e.from)
        lower x (inl p) = (rw p (insert_new e s), inl (sym p))
        lower x (inr p) = (insert_old e s x p.0, inr p.1)

        from : (x : Edge) → Due s e v x → x ∈ filter (is_due s e v) (insert e s)
        from x d = let l = lower x d.1 in (kept_has (is_due s e v) (insert e s) x).1 (l.0, (passes x).1 (d.2, l.1))
    by false q = (refl, λ x. (λ h. absurd (false≢true h), λ d. absurd (nobody d.0)))
      where
        nobody : Concerns s v.kept e.to → ⊥
        nobody h = both_ways _ q (R.1 (h.0, (keeps h.0 h.1).1, h.1, h.2))

brought_brings : (s : Edges) (c : Change) (v : Vault) → Ascending s → Keeps v → Brings s c v (brought s c v)
brought_brings s (Add e) v asc k = (due s e v, due_lists s e v asc k, refl)
brought_brings s (Remove e) v asc k = refl

plan_each : (s : Edges) (c : Change) (vs : List Vault) → Ascending s → Every Keeps vs → Plan s c vs (map (brought s c) vs)
plan_each s c [] asc k = tt
plan_each s c (v ∷ vs) asc k = (brought_brings s c v asc k.0, plan_each s c vs asc k.1)

pub planned : (w : Installation) (o : Option Change) → Ascending w.policy → Every Keeps w.vaults → Planned w o (plan w o)
planned w None asc k = refl
planned w (Some c) asc k = plan_each w.policy c w.vaults asc k

-- there is one plan
brings_unique : (s : Edges) (c : Change) (v : Vault) (ms ns : List Change) → Brings s c v ms → Brings s c v ns → ms ≡ ns
brings_unique s (Add e) v ms ns (b, l, p) (d, k, q) =
    p ∙ ap (map Add) (ascending_unique b d l.0 k.0 (λ x h. (k.1 x).1 ((l.1 x).0 h)) (λ x h. (l.1 x).1 ((k.1 x).0 h))) ∙ sym q
brings_unique s (Remove e) v ms ns p q = p ∙ sym q

plan_unique : (s : Edges) (c : Change) (vs : List Vault) (mss nss : List (List Change)) → Plan s c vs mss → Plan s c vs nss → mss ≡ nss
plan_unique s c [] [] [] p q = refl
plan_unique s c [] [] (ns ∷ nss) p q = absurd q
plan_unique s c [] (ms ∷ mss) nss p q = absurd p
plan_unique s c (v ∷ vs) [] nss p q = absurd p
plan_unique s c (v ∷ vs) (ms ∷ mss) [] p q = absurd q
plan_unique s c (v ∷ vs) (ms ∷ mss) (ns ∷ nss) p q =
    let a : ms ≡ ns = brings_unique s c v ms ns p.0 q.0 in
    let b : mss ≡ nss = plan_unique s c vs mss nss p.1 q.1 in
    cc

pub planned_unique : (w : Installation) (o : Option Change) (mss nss : List (List Change)) → Planned w o mss → Planned w o nss → mss ≡ nss
planned_unique w None mss nss p q = p ∙ sym q
planned_unique w (Some c) mss nss p q = plan_unique w.policy c w.vaults mss nss p q

-- each question of a call is decided by its test
abbrev Decided : List Question → Type 0
Decided = Asked (λ f A b. Decides b A)

decided_below : {F : Type 0} (whole : F → CentreFault) (r : Result (Unit {0}) F) → Decided (refused_by whole r)
decided_below whole (Ok x) = tt
decided_below whole (Err f) = ((λ h. absurd (false≢true h), λ h. absurd h), tt)

decided_room : (w : Installation) (c : Change) (mss : List (List Change)) → Decided (room w c mss)
decided_room w (Add e) mss = (
  less (length w.policy) 512,
  asked_append _ (at_each store_room 0 w.vaults mss) (at_each link_room 0 w.vaults mss)
      (asked_each _ store_room (λ i v ms. (at_most _ _, tt)) 0 w.vaults mss)
      (asked_each _ link_room (λ i v ms. (at_most _ _, tt)) 0 w.vaults mss),
)
decided_room w (Remove e) mss = tt

decided_change : (w : Installation) (c : Change) (mss : List (List Change)) → Decided (for_change w c mss)
decided_change w c mss = asked_cond _ (alters c w.policy) (room w c mss ++ at_each link_takes 0 w.vaults mss) []
    (asked_append _ (room w c mss) (at_each link_takes 0 w.vaults mss) (decided_room w c mss)
    (asked_each _ link_takes (λ i v ms. decided_below (Link i) (taken v.site.link_limit v.site.waiting ms)) 0 w.vaults mss)) tt

decided_head : (w : Installation) (i : ℕ) (x : Site) → Decided (for_head w i x)
decided_head w i x = (less i (length w.vaults), (less 0 (length x.waiting), decided_below (Store i) (head_answer x.waiting x)))

decided_own : (rule : Rule) (w : Installation) (c : Call) (mss : List (List Change)) → Decided (own_questions rule w c mss)
decided_own rule w (Declare c) mss = (
  proper_decides w.declared (edge_of c),
  asked_cond _ (declared w.declared c) [] _ tt (shallow_decides w.declared 8 c, (less (length w.declared) 128, tt)),
)
decided_own rule w (Keep i p) mss = (less i (length w.vaults), (user_privilege_decides p, tt))
decided_own rule w EndNaming mss = tt
decided_own rule w (Seat e) mss = (proper_decides w.declared e, decided_change w (Add e) mss)
decided_own rule w Open mss = tt
decided_own rule w (Command u c) mss = (less u 64, (proper_decides w.declared (edge_of c), (authorised_decides rule w.declared w.policy u c, decided_change w c mss)))
decided_own rule w (Apply i) mss = decided_head w i (vault_at w.vaults i).site
decided_own rule w (Deliver i) mss = decided_head w i (vault_at w.vaults i).site

all_yes : (qs : List Question) → Decided qs → first_no qs ≡ None → AllYes qs
all_yes [] h q = tt
all_yes (asks f A true ∷ qs) h q = (h.0.0 refl, all_yes qs h.1 q)
all_yes (asks f A false ∷ qs) h q = absurd (some_none (sym q))

one_no : (qs : List Question) (g : CentreFault) → Decided qs → first_no qs ≡ Some g → FirstNo qs g
one_no [] g h q = absurd (some_none q)
one_no (asks f A true ∷ qs) g h q = inr (h.0.0 refl, one_no qs g h.1 q)
one_no (asks f A false ∷ qs) g h q = inl (λ a. false≢true (h.0.1 a), sym (some_equal q))

-- and so the computed outcome is one
pub performs_computed : (rule : Rule) (w : Installation) (c : Call) → Ascending w.policy → Every Keeps w.vaults
    → Performs rule w c (outcome rule w c).answer (outcome rule w c).then
performs_computed rule w c asc k = by (first_no (questions rule w c mss)) refl
  where
    mss : List (List Change)
    mss = plan w (requested c)

    plans : Planned w (requested c) mss
    plans = planned w (requested c) asc k

    all : Decided (questions rule w c mss)
    all = (itself (belongs c w.stage), decided_own rule w c mss)

    by : (o : Option CentreFault) → first_no (questions rule w c mss) ≡ o → Performs rule w c (decided w c mss o).answer (decided w c mss o).then
    by None q = accepts mss plans (all_yes (questions rule w c mss) all q)
    by (Some f) q = refuses mss plans (one_no (questions rule w c mss) f all q)

-- there is no other
pub determined : {rule : Rule} {w x y : Installation} {c : Call} {a b : Answer} → Performs rule w c a x → Performs rule w c b y → (a ≡ b) × (x ≡ y)
determined {w = w} {c = c} (accepts mss p h) (accepts nss q k) = (refl, ap (after w c) (planned_unique w (requested c) mss nss p q))
determined {rule} {w} {c = c} (accepts mss p h) (refuses {f = f} nss q n) =
    absurd (none_refused f (questions rule w c nss)
    (subst (λ (qs : List (List Change)). AllYes (questions rule w c qs)) (planned_unique w (requested c) mss nss p q) h) n)
determined {rule} {w} {c = c} (refuses {f = f} mss p n) (accepts nss q k) =
    absurd (none_refused f (questions rule w c mss)
    (subst (λ (qs : List (List Change)). AllYes (questions rule w c qs)) (planned_unique w (requested c) nss mss q p) k) n)
determined {rule} {w} {c = c} (refuses {f = f} mss p m) (refuses {f = g} nss q n) = (
  ap Err (one_refusal f g (questions rule w c nss)
      (subst (λ (qs : List (List Change)). FirstNo (questions rule w c qs) f) (planned_unique w (requested c) mss nss p q) m) n),
  refl,
)

pub fine_computed : (rule : Rule) (w : Installation) (c : Call) → InvariantHolds w → Computed rule w c
fine_computed rule w c f =
    let p = performs_computed rule w c f.ordered (every_to (VaultInvariantHolds w.policy) Keeps (λ v g. g.keeps) w.vaults f.each) in
    record { performs = p; only = λ a x q. determined q p }

runs : (rule : Rule) (w : Installation) (cs : List Call) → InvariantHolds w → Run rule w (records rule w cs) (played rule w cs)
runs rule w [] f = ends
runs rule w (c ∷ cs) f =
    let p = (fine_computed rule w c f).performs in
    calls p (runs rule (outcome rule w c).then cs (fine_performs p f))

pub calls_computed : CallsComputed
calls_computed rule ls = (λ h w c r. fine_computed rule w c (fine_run (fine_begin ls) r), λ cs. runs rule (begin ls) cs (fine_begin ls))
