-- The books and their limits; tables follow the policy, nobody is held up, precedence gains nobody anything, and no message is
-- sent in vain.
use Rattle.std.proofs.Common.{◌≡◌, ℕ, suc, ◌<◌, ◌≤◌, Bool, true, false, cond, not, ◌⊎◌, List, [], ◌∷◌, ◌++◌, length, Ok, Err, sym, refl, ap, ◌∙◌, subst, inl, inr, ⊎_elim, arith}
use Rattle.std.proofs.lemmas.Bool.{false≢true, and_from, or_left, or_right}
use Rattle.edges.specs.declared.edges.Edge.{Edge}
use Rattle.edges.specs.declared.edges.Change.{Change}
use Rattle.edges.specs.declared.edges.Change.TheVariants.{Add, Remove}
use Rattle.edges.specs.Edges.{edge, edge_of, is_edge}
use Rattle.refusals.specs.declared.layer.Layer.TheVariants.{Centre}
use Rattle.rules.specs.declared.fault.CentreFault.{CentreFault}
use Rattle.rules.specs.declared.fault.CentreFault.TheVariants.{NoUser, NoEdge, Unauthorised, PolicyFull, StoreRoom, LinkRoom, TooDeep, NamesFull, NoVault, NoPrivilege, NothingWaiting, WrongStage, Link, Store}
use Rattle.rules.specs.Faults.{centre_layer}
use Rattle.calls.specs.declared.call.Call.{Call}
use Rattle.calls.specs.declared.call.Call.TheVariants.{Declare, Keep, EndNaming, Seat, Open, Command, Apply, Deliver}
use Rattle.rules.specs.declared.record.CallRecord.{CallRecord}
use Rattle.edge_sets.specs.EdgeSets.{Edges, has, all_edges, insert, delete, perform, ◌∈◌, ◌∉◌}
use Rattle.edge_sets.proofs.Order.{same_refl}
use Rattle.edge_sets.proofs.Members.{delete_old, delete_gone}
use Rattle.vaults.specs.Sites.{Site}
use Rattle.graph.specs.Paths.{User, Reach}
use Rattle.privileges.specs.Privileges.{Names, Proper, Shallow, declared}
use Rattle.precedence.specs.Precedence.{Rule, IsLawful}
use Rattle.rules.specs.Installation.{Vault, Stage, naming, seating, service, Installation, vault_at, with_policy}
use Rattle.rules.specs.Sending.{Brings, Each, Plan, taken, send_each}
use Rattle.rules.specs.Questions.{HasLinkRoom, in_seating, in_service, Question, asks, AllYes, FirstNo, at_each, store_room, link_room, refused_by, link_takes, alters, room, for_change, head_answer, for_head, own_questions, questions}
use Rattle.precedence.specs.Authorisation.{Authorised}
use Rattle.rules.specs.Outcomes.{Answer, value, requested, Planned, changed, after, Performs, accepts, refuses}
use Rattle.rules.specs.Runs.{recorded, Run, ends, calls, Reached}
use Rattle.rules.specs.Laws.{BooksHold, NumbersAnswered, LimitsHold, OrderingHolds, TablesFollow, Made, NobodyHeldUp, Entry, Plain, nothing, adding, Accepted, now, later, ByUsers, GainsNothing, Administered, AdministrationHolds}
use Rattle.privileges.proofs.Declared.{names_declaring, names_answered, edge_by_number}
use Rattle.precedence.proofs.Ordering.{full_decides}
use Rattle.precedence.proofs.Covering.{Sound, Covers, carry, cover_add, covers_refl}
use Rattle.rules.proofs.Asking.{first_append, none_refused, Asked, asked_append, asked_each, asked_cond}
use Rattle.rules.proofs.Rounds.{every_nth, every_at, every_to, each_to, each_both}
use Rattle.rules.proofs.Vaults.{VaultInvariantHolds, follows, adds_taken, withdrawal_taken, head_taken}
use Rattle.rules.proofs.Invariant.{InvariantHolds, Roomy, room_each, due_vault, fine_performs, fine_run, fine_begin, service_later}
use Rattle.rules.proofs.Needs.{messages_needed}

pub reached_fine : {rule : Rule} {w : Installation} → Reached rule w → InvariantHolds w
reached_fine (ls, h, r) = fine_run (fine_begin ls) r

every_edge : (s : Edges) → ((e : Edge) → e ∈ s → is_edge e ≡ true) → all_edges s ≡ true
every_edge [] h = refl
every_edge (d ∷ s) h = and_from (is_edge d) (all_edges s) (h d (or_left _ _ (same_refl d))) (every_edge s (λ e k. h e (or_right _ _ k)))

pub books_hold : BooksHold
books_hold rule w r =
    let f = reached_fine r in
    record {
      formed = f.formed;
      ascending = f.ordered;
      few_edges = f.few_edges;
      few_names = f.few_names;
      edges = every_edge w.policy (λ e h. edge_by_number f.few_names (f.formed.held e h));
      single = λ p q c m n. let i = f.single m.0 n.0 c m.2 n.2 in omega arith;
    }

-- answers
ok_equal : {m n : ℕ} → ◌≡◌ {A = Answer} (Ok m) (Ok n) → m ≡ n
ok_equal q = cc

err_equal : {f g : CentreFault} → ◌≡◌ {A = Answer} (Err f) (Err g) → f ≡ g
err_equal q = cc

ok_err : {n : ℕ} {g : CentreFault} → ◌≡◌ {A = Answer} (Ok n) (Err g) → ⊥
ok_err q = let z : ◌≡◌ {A = ℕ} 0 1 = cc in omega arith

-- a call, or an answer, is a variable with an equation where that is quicker to take apart
answered : {rule : Rule} {w x : Installation} {a : Answer} (c : Change) (n : ℕ) (d : Call) → d ≡ Declare c → a ≡ Ok n → Performs rule w d a x → Names x.declared n c
answered {w = w} c n d q k (accepts mss plan y) =
    subst (λ (m : ℕ). Names (after w d mss).declared m c) (ok_equal k)
    (subst (λ (d : Call). Names (after w d mss).declared (value w d) c) (sym q) (names_answered w.declared c))
answered c n d q k (refuses mss plan x) = absurd (ok_err (sym k))

-- what is declared stays declared
names_after : {rule : Rule} {w x : Installation} {c : Call} {a : Answer} {p : ℕ} {d : Change} → Performs rule w c a x → Names w.declared p d → Names x.declared p d
names_after {w = w} {c = c} {p = p} {d = d} (accepts mss plan y) m = by c
  where
    by_change : (b : Bool) (s : Edges) → Names (cond b (with_policy s (send_each mss w.vaults) w) w).declared p d
    by_change true s = m
    by_change false s = m

    by : (c : Call) → Names (after w c mss).declared p d
    by (Declare e) = names_declaring w.declared e m
    by (Keep i q) = m
    by EndNaming = m
    by (Seat e) = by_change (alters (Add e) w.policy) (insert e w.policy)
    by Open = m
    by (Command u e) = by_change (alters e w.policy) (perform e w.policy)
    by (Apply i) = m
    by (Deliver i) = m
names_after (refuses mss plan n) m = m

names_run : {rule : Rule} {w x : Installation} {h : List CallRecord} {p : ℕ} {d : Change} → Names w.declared p d → Run rule w h x → Names x.declared p d
names_run m ends = m
names_run m (calls p r) = names_run (names_after p m) r

pub numbers_answered : NumbersAnswered
numbers_answered rule w x y c n h p r = names_run (answered c n (Declare c) refl refl p) r

pub ordering_holds : OrderingHolds
ordering_holds rule w r p c d n q = full_decides (reached_fine r).formed c d q

tables_follow : (w : Installation) → InvariantHolds w → TablesFollow w
tables_follow w f i v q = follows w.policy v (every_nth (VaultInvariantHolds w.policy) w.vaults i f.each q)

-- Links take what is sent

abbrev Taken : Vault → List Change → Type 0
Taken v ms = taken v.site.link_limit v.site.waiting ms ≡ Ok tt

each_taken : (w : Installation) (c : Change) (mss : List (List Change)) → InvariantHolds w → Proper w.declared (edge_of c)
    → Plan w.policy c w.vaults mss → AllYes (room w c mss) → Each Taken w.vaults mss
each_taken w (Add e) mss f p plan y =
    each_to (VaultInvariantHolds w.policy) (λ v ms. Roomy v ms × Brings w.policy (Add e) v ms) Taken one w.vaults mss f.each
    (each_both Roomy (Brings w.policy (Add e)) w.vaults mss (room_each w e mss plan y) plan)
  where
    one : (v : Vault) (ms : List Change) → VaultInvariantHolds w.policy v → Roomy v ms × Brings w.policy (Add e) v ms → Taken v ms
    one v ms g (r, b) = rw b.2 (adds_taken w.policy e v b.0 (due_vault f.formed.held p v g) b.1 (subst (HasLinkRoom v) b.2 r.1))
each_taken w (Remove e) mss f p plan y =
    each_to (VaultInvariantHolds w.policy) (Brings w.policy (Remove e)) Taken (λ v ms g b. rw b (withdrawal_taken w.policy e v g)) w.vaults mss f.each plan

-- so they refuse nothing
no_refusal : (i : ℕ) (vs : List Vault) (mss : List (List Change)) → Each Taken vs mss → at_each link_takes i vs mss ≡ []
no_refusal i [] mss k = refl
no_refusal i (v ∷ vs) [] k = refl
no_refusal i (v ∷ vs) (ms ∷ mss) k = rw k.0 (no_refusal (suc i) vs mss k.1)

-- (b) a withdrawal

withdrawal_accepted : {rule : Rule} {w x : Installation} {a : Answer} (u p : ℕ) (e : Edge) → IsLawful rule → InvariantHolds w → in_service w.stage ≡ true → User u
    → Names w.declared p (Remove e) → Reach w.policy u p → (c : Call) → c ≡ Command u (Remove e) → Performs rule w c a x → (a ≡ Ok 0) × (e ∉ x.policy)
withdrawal_accepted {rule} {w} u p e law f s b n r c q (accepts mss plan y) = (
  ap (λ (d : Call). Ok (value w d)) q,
  subst (λ (d : Call). e ∉ (after w d mss).policy) (sym q) (gone (has w.policy e) refl),
)
  where
    gone : (t : Bool) → has w.policy e ≡ t → e ∉ (cond t (with_policy (delete e w.policy) (send_each mss w.vaults) w) w).policy
    gone true k = delete_gone e w.policy
    gone false k = k
withdrawal_accepted {rule} {w} u p e law f s b n r c q (refuses {f = g} mss plan x) =
    absurd (none_refused g (questions rule w (Command u (Remove e)) mss)
    (s, (b, (proper, ((p, Remove e, r, n, law.reflexive w.declared w.policy f.formed p (Remove e) n), room_enough (has w.policy e)))))
    (subst (λ (d : Call). FirstNo (questions rule w d mss) g) q x))
  where
    proper : Proper w.declared e
    proper = f.formed.names n.0 (Remove e) n.2

    plan' : Plan w.policy (Remove e) w.vaults mss
    plan' = subst (λ (d : Call). Planned w (requested d) mss) q plan

    room_enough : (t : Bool) → AllYes (cond t (at_each link_takes 0 w.vaults mss) [])
    room_enough true = rw (no_refusal 0 w.vaults mss (each_taken w (Remove e) mss f proper plan' tt)) tt
    room_enough false = tt

-- (b) what is made already

made_accepted : {rule : Rule} {w x : Installation} {a : Answer} (u : ℕ) (c : Change) → in_service w.stage ≡ true → User u → Proper w.declared (edge_of c)
    → Authorised rule w.declared w.policy u c → alters c w.policy ≡ false → (d : Call) → d ≡ Command u c → Performs rule w d a x → (a ≡ Ok 0) × (x ≡ w)
made_accepted {rule} {w} u c s b p o n d q (accepts mss plan y) = (
  ap (λ (d : Call). Ok (value w d)) q,
  ap (λ (d : Call). after w d mss) q ∙ ap (λ (t : Bool). cond t (with_policy (perform c w.policy) (send_each mss w.vaults) w) w) n,
)
made_accepted {rule} {w} u c s b p o n d q (refuses {f = g} mss plan x) =
    absurd (none_refused g (questions rule w (Command u c) mss) (s, (b, (p, (o, nothing_more))))
    (subst (λ (d : Call). FirstNo (questions rule w d mss) g) q x))
  where
    nothing_more : AllYes (for_change w c mss)
    nothing_more = rw n tt

alters_not : (c : Change) (s : Edges) → Made c s → alters c s ≡ false
alters_not (Add e) s h = rw h refl
alters_not (Remove e) s h = h

-- What a refusal says of the installation and of the call: never is it a link's or a store's

abbrev Says : Installation → Call → CentreFault → Type 0
Says w c PolicyFull = length w.policy ≡ 512
Says w c (StoreRoom i) = length w.policy < 512
Says w c (LinkRoom i) = length w.policy < 512
Says w c TooDeep = (d : Change) × (c ≡ Declare d) × (¬ Shallow w.declared 8 d)
Says w c NamesFull = length w.declared ≡ 128
Says w c (Link i f) = ⊥
Says w c (Store i f) = ⊥
Says w c f = Unit {0}

own : (w : Installation) (c : Call) (f : CentreFault) → Says w c f → centre_layer f ≡ Centre
own w c (Link i f) h = absurd h
own w c (Store i f) h = absurd h
own w c f h = refl

-- of the call d
module _ (w : Installation) (d : Call) (g : CentreFault) where
  says : {A R : Type 0} (f : CentreFault) → ((¬ A) → Says w d f) → (A → R → Says w d g) → ((¬ A) × (g ≡ f)) ⊎ (A × R) → Says w d g
  says f l k (inl n) = subst (Says w d) (sym n.1) (l n.0)
  says f l k (inr n) = k n.0 n.1

  says_first : (qs : List Question) → Asked (λ f A b. (¬ A) → Says w d f) qs → FirstNo qs g → Says w d g
  says_first [] h n = absurd n
  says_first (asks f A b ∷ qs) h n = says f h.0 (λ a m. says_first qs h.1 m) n

  says_room : (c : Change) (mss : List (List Change)) → length w.policy ≤ 512 → FirstNo (room w c mss) g → Says w d g
  says_room (Add e) mss l n = says PolicyFull (λ k. omega arith) (λ a m. says_first _ (vaults a) m) n
    where
      vaults : length w.policy < 512 → Asked (λ f A b. (¬ A) → Says w d f) (at_each store_room 0 w.vaults mss ++ at_each link_room 0 w.vaults mss)
      vaults a =
          asked_append _ (at_each store_room 0 w.vaults mss) (at_each link_room 0 w.vaults mss)
          (asked_each _ store_room (λ i v ms. (λ k. a, tt)) 0 w.vaults mss) (asked_each _ link_room (λ i v ms. (λ k. a, tt)) 0 w.vaults mss)
  says_room (Remove e) mss l n = absurd n

  says_change : (c : Change) (mss : List (List Change)) → InvariantHolds w → Proper w.declared (edge_of c)
      → Plan w.policy c w.vaults mss → FirstNo (for_change w c mss) g → Says w d g
  says_change c mss f p plan n = by (alters c w.policy) n
    where
      taken_all : AllYes (room w c mss) → FirstNo (at_each link_takes 0 w.vaults mss) g → ⊥
      taken_all y m = subst (λ (qs : List Question). FirstNo qs g) (no_refusal 0 w.vaults mss (each_taken w c mss f p plan y)) m

      by : (b : Bool) → FirstNo (cond b (room w c mss ++ at_each link_takes 0 w.vaults mss) []) g → Says w d g
      by true n =
          ⊎_elim (says_room c mss f.few_edges) (λ k. absurd (taken_all k.0 k.1)) (first_append (room w c mss) (at_each link_takes 0 w.vaults mss) g n)
      by false n = absurd n

  says_head : (i : ℕ) → InvariantHolds w → FirstNo (for_head w i (vault_at w.vaults i).site) g → Says w d g
  says_head i f n = says (NoVault i) (λ k. tt) (λ a m. says (NothingWaiting i) (λ k. tt) (λ b k. absurd (silent k)) m) n
    where
      site : Site
      site = (vault_at w.vaults i).site

      accepts_head : head_answer site.waiting site ≡ Ok tt
      accepts_head = every_at (λ v. head_answer v.site.waiting v.site ≡ Ok tt) refl w.vaults i
          (every_to (VaultInvariantHolds w.policy) (λ v. head_answer v.site.waiting v.site ≡ Ok tt) (head_taken w.policy) w.vaults f.each)

      silent : FirstNo (refused_by (Store i) (head_answer site.waiting site)) g → ⊥
      silent k = subst (λ r. FirstNo (refused_by (Store i) r) g) accepts_head k

says_own : (rule : Rule) (w : Installation) (c : Call) (mss : List (List Change)) (g : CentreFault) → InvariantHolds w → Planned w (requested c) mss
    → FirstNo (own_questions rule w c mss) g → Says w c g
says_own rule w (Declare c) mss g f plan n =
    says_first w (Declare c) g (own_questions rule w (Declare c) mss)
    (λ k. tt, asked_cond _ (declared w.declared c) [] _ tt (λ k. (c, refl, k), (λ k. let l = f.few_names in omega arith, tt))) n
says_own rule w (Keep i p) mss g f plan n =
    says w (Keep i p) g (NoVault i) (λ k. tt) (λ a m. says w (Keep i p) g NoPrivilege (λ k. tt) (λ b k. absurd k) m) n
says_own rule w EndNaming mss g f plan n = absurd n
says_own rule w (Seat e) mss g f plan n = says w (Seat e) g NoEdge (λ k. tt) (λ a m. says_change w (Seat e) g (Add e) mss f a plan m) n
says_own rule w Open mss g f plan n = absurd n
says_own rule w (Command u c) mss g f plan n =
    let d : Call = Command u c in
    says w d g NoUser (λ k. tt)
    (λ a m. says w d g NoEdge (λ k. tt) (λ p k. says w d g Unauthorised (λ k. tt) (λ b l. says_change w d g c mss f p plan l) k) m) n
says_own rule w (Apply i) mss g f plan n = says_head w (Apply i) g i f n
says_own rule w (Deliver i) mss g f plan n = says_head w (Deliver i) g i f n

refusal_says : {rule : Rule} {w x : Installation} {c : Call} {a : Answer} (g : CentreFault) → InvariantHolds w → Performs rule w c a x → a ≡ Err g → Says w c g
refusal_says g f (accepts mss plan y) q = absurd (ok_err q)
refusal_says {rule} {w} {c = c} g f (refuses {f = h} mss plan n) q =
    subst (Says w c) (err_equal q) (says w c h WrongStage (λ k. tt) (λ a m. says_own rule w c mss h f plan m) n)

pub limits_hold : LimitsHold
limits_hold rule w r c x =
    let f = reached_fine r in
    record {
      policy = λ p. refusal_says PolicyFull f p refl;
      names = λ p. refusal_says NamesFull f p refl;
      depth = λ p. refusal_says TooDeep f p refl;
      stores = λ i p. refusal_says (StoreRoom i) f p refl;
      links = λ i p. refusal_says (LinkRoom i) f p refl;
    }

nobody_held_up : (rule : Rule) (w : Installation) → IsLawful rule → InvariantHolds w → NobodyHeldUp rule w
nobody_held_up rule w law f = record {
  withdrawal = λ u p e s b n r a x k. withdrawal_accepted u p e law f (ap in_service s) b n r (Command u (Remove e)) refl k;
  made = λ u c s b p o m a x k. made_accepted u c (ap in_service s) b p o (alters_not c w.policy m) (Command u c) refl k;
  refusals = λ c g x k. own w c g (refusal_says g f k refl);
}

-- (c) Every call since the opening keeps a covering policy, an accepted addition by one plain entry of the same user

later_users : (r : CallRecord) (h : List CallRecord) (l : List Entry) → ByUsers h l → ByUsers (r ∷ h) l
later_users r h [] b = tt
later_users r h (x ∷ l) b = (later b.0, later_users r h l b.1)

-- the policy that a call leaves is covered by t with one plain entry
record OneEntry (D : List Change) (t : Edges) (c : Call) (a : Answer) (x : Installation) : Type 0 where
  user : ℕ
  holds : ℕ
  wanted : Edge
  adds : Edge
  record_is : recorded c a ≡ recorded (Command user (Add wanted)) (Ok 0)
  is_user : User user
  named : Names D holds (Add adds)
  reached : Reach t user holds
  covers : Covers D (insert adds t) x.policy

-- or by t as it is
record Next (D : List Change) (t : Edges) (c : Call) (a : Answer) (x : Installation) : Type 0 where
  serving : in_service x.stage ≡ true
  names : x.declared ≡ D
  covered : Covers D t x.policy ⊎ OneEntry D t c a x

not_seating : (t : Stage) → in_service t ≡ true → in_seating t ≡ true → ⊥
not_seating naming h k = false≢true h
not_seating seating h k = false≢true h
not_seating service h k = false≢true k

next_added : {rule : Rule} (w : Installation) (u : ℕ) (e : Edge) (mss : List (List Change)) (t : Edges) → IsLawful rule → InvariantHolds w → in_service w.stage ≡ true
    → User u → Proper w.declared e → Authorised rule w.declared w.policy u (Add e) → Covers w.declared t w.policy
    → Next w.declared t (Command u (Add e)) (Ok 0) (changed (Add e) mss w)
next_added {rule} w u e mss t law f s b p (m, d, r, n, o) k = by (not (has w.policy e))
  where
    by : (z : Bool) → Next w.declared t (Command u (Add e)) (Ok 0) (cond z (with_policy (insert e w.policy) (send_each mss w.vaults) w) w)
    by true =
        let c = cover_add e f.formed.held k (omega arith) r n p (law.within w.declared w.policy f.formed m d (Add e) n p o) in
        record {
          serving = s;
          names = refl;
          covered = inr (record { user = u; holds = c.1; wanted = e; adds = c.0; record_is = refl; is_user = b; named = c.2; reached = c.3; covers = c.4 });
        }
    by false = record { serving = s; names = refl; covered = inl k }

next_removed : (w : Installation) (u : ℕ) (e : Edge) (mss : List (List Change)) (t : Edges) → in_service w.stage ≡ true → Covers w.declared t w.policy
    → Next w.declared t (Command u (Remove e)) (Ok 0) (changed (Remove e) mss w)
next_removed w u e mss t s k = by (has w.policy e)
  where
    by : (z : Bool) → Next w.declared t (Command u (Remove e)) (Ok 0) (cond z (with_policy (delete e w.policy) (send_each mss w.vaults) w) w)
    by true = record { serving = s; names = refl; covered = inl (λ v x i. k v x (delete_old e w.policy (edge v x) i)) }
    by false = record { serving = s; names = refl; covered = inl k }

next_after : {rule : Rule} (w : Installation) (c : Call) (mss : List (List Change)) (t : Edges) → IsLawful rule → InvariantHolds w → in_service w.stage ≡ true
    → AllYes (questions rule w c mss) → Covers w.declared t w.policy → Next w.declared t c (Ok (value w c)) (after w c mss)
next_after w (Declare c) mss t law f s y k = absurd (service_later w.stage s y.0)
next_after w (Keep i p) mss t law f s y k = absurd (service_later w.stage s y.0)
next_after w EndNaming mss t law f s y k = absurd (service_later w.stage s y.0)
next_after w (Seat e) mss t law f s y k = absurd (not_seating w.stage s y.0)
next_after w Open mss t law f s y k = absurd (not_seating w.stage s y.0)
next_after w (Command u (Add e)) mss t law f s y k = next_added w u e mss t law f s y.1.0 y.1.1.0 y.1.1.1.0 k
next_after w (Command u (Remove e)) mss t law f s y k = next_removed w u e mss t s k
next_after w (Apply i) mss t law f s y k = record { serving = s; names = refl; covered = inl k }
next_after w (Deliver i) mss t law f s y k = record { serving = s; names = refl; covered = inl k }

next : {rule : Rule} {w x : Installation} {c : Call} {a : Answer} (t : Edges) → IsLawful rule → InvariantHolds w → in_service w.stage ≡ true
    → Performs rule w c a x → Covers w.declared t w.policy → Next w.declared t c a x
next {w = w} {c = c} t law f s (accepts mss plan y) k = next_after w c mss t law f s y k
next t law f s (refuses mss plan n) k = record { serving = s; names = refl; covered = inl k }

-- from t a plain list leads to a policy that covers that of x
record Matched (D : List Change) (t : Edges) (h : List CallRecord) (x : Installation) : Type 0 where
  names : x.declared ≡ D
  entries : List Entry
  result : Edges
  plain : Plain D t entries result
  users : ByUsers h entries
  covers : Covers D result x.policy

matched : {rule : Rule} {w x : Installation} {h : List CallRecord} (D : List Change) (t : Edges) → IsLawful rule → InvariantHolds w → in_service w.stage ≡ true
    → w.declared ≡ D → Covers D t w.policy → Run rule w h x → Matched D t h x
matched D t law f s q k ends = record { names = q; entries = []; result = t; plain = nothing; users = tt; covers = k }
matched {rule} {w} {x} D t law f s q k (calls {x = m} {c = c} {a = a} {h = h} p r) =
    let n : Next D t c a m = subst (λ (E : List Change). Next E t c a m) q
    (next t law f s p (subst (λ (E : List Change). Covers E t w.policy) (sym q) k)) in
    by n.covered (λ u k. matched D u law (fine_performs p f) n.serving n.names k r)
  where
    by : Covers D t m.policy ⊎ OneEntry D t c a m → ((u : Edges) → Covers D u m.policy → Matched D u h x) → Matched D t (recorded c a ∷ h) x
    by (inl k) go =
        let z = go t k in
        record {
          names = z.names;
          entries = z.entries;
          result = z.result;
          plain = z.plain;
          users = later_users (recorded c a) h z.entries z.users;
          covers = z.covers;
        }
    by (inr o) go =
        let z = go (insert o.adds t) o.covers in
        record {
          names = z.names;
          entries = record { user = o.user; adds = o.adds } ∷ z.entries;
          result = z.result;
          plain = adding o.user o.holds o.adds o.is_user o.named o.reached z.plain;
          users = (
            subst (λ (y : CallRecord). Accepted o.user (y ∷ h)) (sym o.record_is) now,
            later_users (recorded c a) h z.entries z.users,
          );
          covers = z.covers;
        }

gains_nothing : {rule : Rule} {o w : Installation} {h : List CallRecord} → IsLawful rule → InvariantHolds o → in_service o.stage ≡ true → Run rule o h w → GainsNothing o h w
gains_nothing {o = o} {w = w} law f s r =
    let z = matched o.declared o.policy law f s refl (covers_refl f.formed.held) r in
    let sound : Sound o.declared w.policy = subst (λ (D : List Change). Sound D w.policy) z.names (fine_run f r).formed.held in
    record {
      entries = z.entries;
      result = z.result;
      plain = z.plain;
      users = z.users;
      given = λ u p b k t. carry sound z.covers u p k.1 t;
    }

opened : {rule : Rule} {s o : Installation} {a : Answer} (c : Call) → c ≡ Open → a ≡ Ok 0 → Performs rule s c a o → in_service o.stage ≡ true
opened {s = s} c q k (accepts mss plan y) = subst (λ (d : Call). in_service (after s d mss).stage ≡ true) (sym q) refl
opened c q k (refuses mss plan n) = absurd (ok_err (sym k))

pub administered : (rule : Rule) → IsLawful rule → (w : Installation) → InvariantHolds w → Administered rule w
administered rule law w f = record {
  tables = tables_follow w f;
  held_up = nobody_held_up rule w law f;
  gains = λ o h k r. gains_nothing law (fine_performs k.2 (reached_fine k.1)) (opened Open refl refl k.2) r;
  messages = λ c a x p. messages_needed f p;
}

pub administration_holds : AdministrationHolds
administration_holds rule law w r = administered rule law w (reached_fine r)
