-- How each call ends, by what was done and by the rules.
use Rattle.std.proofs.Common.{◌≡◌, ℕ, zero, suc, ◌+◌, ◌<◌, ◌≤◌, Bool, true, false, cond, not, ◌&&◌, ◌||◌, eqb, List, [], ◌∷◌, length, ltb, Some, None, Ok, Err, Option, Result, ◌≢◌, sym, refl, ap, ◌∙◌, subst, arith}
use mathlib.Core.Path.{fun_ext}
use Rattle.std.proofs.lemmas.Bool.{lt-ltb, ltb-true, eqb-true}
use Rattle.std.proofs.lemmas.Bool.Decides.{nat_tests}
use Rattle.edges.specs.declared.edges.Edge.{Edge}
use Rattle.edges.specs.declared.edges.Change.{Change}
use Rattle.edges.specs.declared.edges.Change.TheVariants.{Add}
use Rattle.edges.specs.Edges.{edge_of, is_user, is_user_privilege}
use Rattle.refusals.specs.declared.store.StoreFault.{StoreFault}
use Rattle.rules.specs.declared.fault.CentreFault.{CentreFault}
use Rattle.rules.specs.declared.fault.CentreFault.TheVariants.{NoUser, NoEdge, Unauthorised, NoVault, NoPrivilege, NothingWaiting, WrongStage, Store}
use Rattle.calls.specs.declared.call.Call.{Call}
use Rattle.calls.specs.declared.call.Call.TheVariants.{Declare, Keep, Seat, Command, Apply, Deliver}
use Rattle.vaults.specs.Sites.{Site, site_at, alter, strike_at}
use Rattle.privileges.specs.Privileges.{Proper, is_proper}
use Rattle.graph.specs.Paths.{User, UserPrivilege}
use Rattle.precedence.specs.Precedence.{Rule}
use Rattle.rules.specs.Installation.{Vault, vault_at, Stage, naming, seating, service, Installation, with_site, with_declared, with_vaults, keeping, update}
use Rattle.rules.specs.Questions.{Question, asks, first_no, for_change, for_head, refused_by, store_answer, head_answer, questions, in_naming}
use Rattle.precedence.specs.Authorisation.{Authorised, authorised}
use Rattle.rules.specs.Outcomes.{Outcome, Answer, value, after, requested, plan, decided, applied, delivered}
use Rattle.privileges.specs.Declaring.{declare_answer, declared_with}
use Rattle.centre.specs.DeclareCall.{centre_answer}
use Rattle.centre.proofs.DeclareCall.{declaring_agrees}
use Rattle.policy.specs.declared.keeping.Keeping.{Keeping}
use Rattle.policy.specs.Keepings.{keeps}
use Rattle.policy.specs.Ledgers.{Ledger, told_of}
use Rattle.centre.specs.Worked.{store_fault}
use Rattle.centre.specs.Holding.{Held, vault_by, vaults_from, installation}
use Rattle.centre.specs.Heads.{head_result, perform_result, sites_after, Visited}
use Rattle.centre.specs.Sendings.{SameRest}
use Rattle.centre.proofs.Turns.{refused_not_ok}
use Rattle.centre.proofs.Visits.{struck_sites}
use Rattle.centre.specs.Sayings.{said, refusal, Ends, Changed}

module _ (rule : Rule) (w : Installation) (c : Call) where
  -- the questions put to the call
  asked : List Question
  asked = questions rule w c (plan w (requested c))

  pub ends_refused : (f : CentreFault) → first_no (questions rule w c (plan w (requested c))) ≡ Some f → Ends rule w c (Err f) w
  ends_refused f q =
      let d = ap (decided w c (plan w (requested c))) q in
      record { answer = ap (λ (o : Outcome). o.answer) d; then = ap (λ (o : Outcome). o.then) d }

  pub ends_accepted : first_no (questions rule w c (plan w (requested c))) ≡ None → Ends rule w c (Ok (value w c)) (after w c (plan w (requested c)))
  ends_accepted q =
      let d = ap (decided w c (plan w (requested c))) q in
      record { answer = ap (λ (o : Outcome). o.answer) d; then = ap (λ (o : Outcome). o.then) d }

  -- a call without a value of its own, where r tells whether it is refused, and x what is left
  pub ends_with : (r : Result (Unit {0}) CentreFault) (x : Installation) → value w c ≡ 0 → first_no (questions rule w c (plan w (requested c))) ≡ refusal r
      → ◌≡◌ {A = Installation} (elim r [ Ok y ↦ after w c (plan w (requested c)) | Err f ↦ w ]) x → Ends rule w c (said r) x
  ends_with (Ok y) x v q left = let e = ends_accepted q in record { answer = e.answer ∙ ap Ok v; then = e.then ∙ left }
  ends_with (Err f) x v q left = let e = ends_refused f q in record { answer = e.answer; then = e.then ∙ left }

module _ {R : Type 0} (rule : Rule) (h : Held R) where
  -- Seats

  module _ (e : Edge) where
    pub seat_no_edge : is_proper h.declared e ≡ false → Ends rule (installation seating h) (Seat e) (Err NoEdge) (installation seating h)
    seat_no_edge q = ends_refused rule (installation seating h) (Seat e) NoEdge
        (ap (λ (b : Bool). first_no (asks NoEdge (Proper h.declared e) b ∷ for_change (installation seating h) (Add e) (plan (installation seating h) (Some (Add e))))) q)

    pub seat_ends : is_proper h.declared e ≡ true → (r : Result (Unit {0}) CentreFault) (x : Installation) → Changed (installation seating h) (Add e) r x
        → Ends rule (installation seating h) (Seat e) (said r) x
    seat_ends p r x done = ends_with rule (installation seating h) (Seat e) r x refl
        (ap (λ (b : Bool). first_no (asks NoEdge (Proper h.declared e) b ∷ for_change (installation seating h) (Add e) (plan (installation seating h) (Some (Add e))))) p
        ∙ done.asked) done.left

  -- Commands

  module _ (u : ℕ) (c : Change) where
    -- the first no, where p, q and r answer the first three questions
    abbrev command_asks : Bool → Bool → Bool → Option CentreFault
    command_asks p q r = first_no
        (asks NoUser (User u) p ∷ asks NoEdge (Proper h.declared (edge_of c)) q ∷ asks Unauthorised (Authorised rule h.declared h.ledger.edges u c) r
        ∷ for_change (installation service h) c (plan (installation service h) (Some c)))

    by_user : (b : Bool) → is_user u ≡ b
        → command_asks (is_user u) (is_proper h.declared (edge_of c)) (authorised rule h.declared h.ledger.edges u c)
        ≡ command_asks b (is_proper h.declared (edge_of c)) (authorised rule h.declared h.ledger.edges u c)
    by_user b p = ap (λ (x : Bool). command_asks x (is_proper h.declared (edge_of c)) (authorised rule h.declared h.ledger.edges u c)) p

    pub no_user : is_user u ≡ false → Ends rule (installation service h) (Command u c) (Err NoUser) (installation service h)
    no_user p = ends_refused rule (installation service h) (Command u c) NoUser (by_user false p)

    module _ (p : is_user u ≡ true) where
      by_edge : (b : Bool) → is_proper h.declared (edge_of c) ≡ b
          → command_asks (is_user u) (is_proper h.declared (edge_of c)) (authorised rule h.declared h.ledger.edges u c)
          ≡ command_asks true b (authorised rule h.declared h.ledger.edges u c)
      by_edge b q = by_user true p ∙ ap (λ (x : Bool). command_asks true x (authorised rule h.declared h.ledger.edges u c)) q

      pub no_edge : is_proper h.declared (edge_of c) ≡ false → Ends rule (installation service h) (Command u c) (Err NoEdge) (installation service h)
      no_edge q = ends_refused rule (installation service h) (Command u c) NoEdge (by_edge false q)

      module _ (q : is_proper h.declared (edge_of c) ≡ true) where
        by_right : (b : Bool) → authorised rule h.declared h.ledger.edges u c ≡ b
            → command_asks (is_user u) (is_proper h.declared (edge_of c)) (authorised rule h.declared h.ledger.edges u c) ≡ command_asks true true b
        by_right b r = by_edge true q ∙ ap (command_asks true true) r

        pub no_right : authorised rule h.declared h.ledger.edges u c ≡ false → Ends rule (installation service h) (Command u c) (Err Unauthorised) (installation service h)
        no_right r = ends_refused rule (installation service h) (Command u c) Unauthorised (by_right false r)

        pub command_ends : authorised rule h.declared h.ledger.edges u c ≡ true → (a : Result (Unit {0}) CentreFault) (x : Installation)
            → Changed (installation service h) c a x → Ends rule (installation service h) (Command u c) (said a) x
        command_ends r a x done =
            ends_with rule (installation service h) (Command u c) a x refl (by_right true r ∙ done.asked) done.left

-- The first message that waits, performed, and perhaps struck

length_vaults : (l : Ledger) (ks : Keeping) (k : ℕ) (xs : List Site) → length (vaults_from l ks k xs) ≡ length xs
length_vaults l ks k [] = refl
length_vaults l ks k (x ∷ xs) = ap suc (length_vaults l ks (suc k) xs)

site_of : (l : Ledger) (ks : Keeping) (k : ℕ) (xs : List Site) (i : ℕ) → (vault_at (vaults_from l ks k xs) i).site ≡ site_at xs i
site_of l ks k [] i = refl
site_of l ks k (x ∷ xs) zero = refl
site_of l ks k (x ∷ xs) (suc i) = site_of l ks (suc k) xs i

altered_site : (l : Ledger) (ks : Keeping) (f : Site → Site) (k : ℕ) (xs : List Site) (i : ℕ)
    → update i (with_site f) (vaults_from l ks k xs) ≡ vaults_from l ks k (alter i f xs)
altered_site l ks f k [] i = refl
altered_site l ks f k (x ∷ xs) zero = refl
altered_site l ks f k (x ∷ xs) (suc i) = ap (λ (vs : List Vault). vault_by l ks k x ∷ vs) (altered_site l ks f (suc k) xs i)

-- the questions about a head, and the result of performing it
head_asked : (i : ℕ) (ws : List Change) (x : Site) (b : Bool) (A B : Type 0)
    → first_no (asks (NoVault i) A b ∷ asks (NothingWaiting i) B (ltb 0 (length ws)) ∷ refused_by (Store i) (head_answer ws x))
    ≡ refusal (cond b (head_result i ws x) (Err (NoVault i)))
head_asked i ws x false A B = refl
head_asked i [] x true A B = refl
head_asked i (m ∷ ms) x true A B =
    ap (λ (y : Bool). first_no (asks (NothingWaiting i) B y ∷ refused_by (Store i) (store_answer m x))) (lt-ltb 0 (suc (length ms)) (omega arith))
    ∙ by (store_answer m x)
  where
    by : (r : Result (Unit {0}) StoreFault) → first_no (refused_by (Store i) r) ≡ refusal (store_fault i r)
    by (Ok y) = refl
    by (Err f) = refl

module _ {R : Type 0} (rule : Rule) (t : Stage) (late : in_naming t ≡ false) (h : Held R) (i : ℕ) (r : Result (Unit {0}) CentreFault) (x : Held R) where
  -- a call that asks about the head of vault i, and alters its site by f
  module _ (c : Call) (f : Site → Site) (visited : Visited f i h r x) (zero_value : value (installation t h) c ≡ 0)
      (asks_head : ◌≡◌ {A = List Question} (questions rule (installation t h) c (plan (installation t h) (requested c)))
      (asks WrongStage (not (in_naming t) ≡ true) (not (in_naming t)) ∷ for_head (installation t h) i (vault_at (vaults_from h.ledger h.keeping 0 h.sites) i).site))
      (alters_site : after (installation t h) c (plan (installation t h) (requested c)) ≡ with_vaults (update i (with_site f) (vaults_from h.ledger h.keeping 0 h.sites)) (installation t h)) where
    head_refusal : first_no (questions rule (installation t h) c (plan (installation t h) (requested c))) ≡ refusal r
    head_refusal =
        ap first_no asks_head
        ∙ ap (λ (b : Bool). first_no (asks WrongStage (not (in_naming t) ≡ true) (not b) ∷ for_head (installation t h) i (vault_at (vaults_from h.ledger h.keeping 0 h.sites) i).site)) late
        ∙ ap (λ (y : Site). first_no (for_head (installation t h) i y)) (site_of h.ledger h.keeping 0 h.sites i)
        ∙ ap (λ (n : ℕ). first_no (asks (NoVault i) (i < length (vaults_from h.ledger h.keeping 0 h.sites)) (ltb i n)
        ∷ asks (NothingWaiting i) (0 < length (site_at h.sites i).waiting) (ltb 0 (length (site_at h.sites i).waiting))
        ∷ refused_by (Store i) (head_answer (site_at h.sites i).waiting (site_at h.sites i)))) (length_vaults h.ledger h.keeping 0 h.sites)
        ∙ head_asked i (site_at h.sites i).waiting (site_at h.sites i) (ltb i (length h.sites)) (i < length (vaults_from h.ledger h.keeping 0 h.sites)) (0 < length (site_at h.sites i).waiting)
        ∙ ap refusal (sym visited.answer)

    same_books : vaults_from x.ledger x.keeping 0 x.sites ≡ vaults_from h.ledger h.keeping 0 x.sites
    same_books = ap (λ (l : Ledger). vaults_from l x.keeping 0 x.sites) visited.ledger ∙ ap (λ (ks : Keeping). vaults_from h.ledger ks 0 x.sites) visited.rest.keeping

    rebuilt : (vs : List Vault) → vaults_from x.ledger x.keeping 0 x.sites ≡ vs → with_vaults vs (installation t h) ≡ installation t x
    rebuilt vs q =
        ap (λ (us : List Vault). with_vaults us (installation t h)) (sym q)
        ∙ ap (λ (D : List Change). record { stage = t; declared = D; policy = h.ledger.edges; vaults = vaults_from x.ledger x.keeping 0 x.sites }) (sym visited.rest.declared)
        ∙ ap (λ (l : Ledger). record { stage = t; declared = x.declared; policy = l.edges; vaults = vaults_from x.ledger x.keeping 0 x.sites }) (sym visited.ledger)

    left : (a : Result (Unit {0}) CentreFault) → r ≡ a
        → ◌≡◌ {A = Installation} (elim a [ Ok y ↦ after (installation t h) c (plan (installation t h) (requested c)) | Err g ↦ installation t h ]) (installation t x)
    left (Ok y) q =
        alters_site
        ∙ rebuilt (update i (with_site f) (vaults_from h.ledger h.keeping 0 h.sites))
        (same_books ∙ ap (vaults_from h.ledger h.keeping 0) (visited.sites ∙ ap (λ (a : Result (Unit {0}) CentreFault). sites_after f i a h.sites) q)
        ∙ sym (altered_site h.ledger h.keeping f 0 h.sites i))
    left (Err g) q =
        rebuilt (vaults_from h.ledger h.keeping 0 h.sites)
        (same_books ∙ ap (vaults_from h.ledger h.keeping 0) (visited.sites ∙ ap (λ (a : Result (Unit {0}) CentreFault). sites_after f i a h.sites) q))

    head_ends : Ends rule (installation t h) c (said r) (installation t x)
    head_ends = ends_with rule (installation t h) c r (installation t x) zero_value head_refusal (left r refl)

  pub apply_ends : Visited applied i h r x → Ends rule (installation t h) (Apply i) (said r) (installation t x)
  apply_ends v = head_ends (Apply i) applied v refl refl refl

  pub deliver_ends : Visited delivered i h r x → Ends rule (installation t h) (Deliver i) (said r) (installation t x)
  deliver_ends v = head_ends (Deliver i) delivered v refl refl refl

-- a head that was performed and struck, or not
pub deliver_struck : {R : Type 0} (rule : Rule) (t : Stage) → in_naming t ≡ false → (h m x : Held R) (i : ℕ) → Visited applied i h (Ok tt) m → i < length h.sites
    → x.sites ≡ alter i strike_at m.sites → x.ledger ≡ m.ledger → SameRest m x → Ends rule (installation t h) (Deliver i) (Ok 0) (installation t x)
deliver_struck rule t late h m x i v l sites ledger rest = deliver_ends rule t late h i (Ok tt) x (record {
  answer = v.answer;
  sites = sites ∙ ap (alter i strike_at) v.sites ∙ struck_sites h.sites i l;
  ledger = ledger ∙ v.ledger;
  rest = record { rule = rest.rule ∙ v.rest.rule; declared = rest.declared ∙ v.rest.declared; keeping = rest.keeping ∙ v.rest.keeping };
})

pub deliver_refused : {R : Type 0} (rule : Rule) (t : Stage) → in_naming t ≡ false → (h x : Held R) (i : ℕ) (f : CentreFault) → Visited applied i h (Err f) x
    → Ends rule (installation t h) (Deliver i) (Err f) (installation t x)
deliver_refused rule t late h x i f v = deliver_ends rule t late h i (Err f) x (record { answer = v.answer; sites = v.sites; ledger = v.ledger; rest = v.rest })

-- what was performed stands there
pub visit_within : (i : ℕ) (xs : List Site) → Ok tt ≡ perform_result i xs → i < length xs
visit_within i xs q = by (ltb i (length xs)) refl
  where
    by : (b : Bool) → ltb i (length xs) ≡ b → i < length xs
    by true r = ltb-true i (length xs) r
    by false r = absurd (refused_not_ok tt (NoVault i) (sym (ap (λ (b : Bool). cond b (head_result i (site_at xs i).waiting (site_at xs i)) (Err (NoVault i))) r) ∙ sym q))

-- Keeping

same_vaults : (l : Ledger) (ks js : Keeping) (k : ℕ) (xs : List Site) → ((n : ℕ) → k ≤ n → keeps js n ≡ keeps ks n) → vaults_from l js k xs ≡ vaults_from l ks k xs
same_vaults l ks js k [] h = refl
same_vaults l ks js k (x ∷ xs) h = by (same_vaults l ks js (suc k) xs (λ n m. h n (omega arith)))
  where
    by : vaults_from l js (suc k) xs ≡ vaults_from l ks (suc k) xs → vaults_from l js k (x ∷ xs) ≡ vaults_from l ks k (x ∷ xs)
    by ih =
        ap (λ (f : ℕ → Bool). record { kept = f; told = told_of l k; site = x } ∷ vaults_from l js (suc k) xs) (h k (omega arith))
        ∙ ap (λ (vs : List Vault). vault_by l ks k x ∷ vs) ih

module _ (l : Ledger) (ks js : Keeping) (p : ℕ) where
  kept_more : (k i : ℕ) (xs : List Site) → i < length xs → ((n : ℕ) → n ≢ i + k → keeps js n ≡ keeps ks n)
      → keeps js (i + k) ≡ (λ q. eqb p q || keeps ks (i + k) q) → vaults_from l js k xs ≡ update i (keeping p) (vaults_from l ks k xs)
  kept_more k i [] m others here = absurd (omega arith)
  kept_more k zero (x ∷ xs) m others here =
      let z : 0 + k ≡ k = omega arith in
      let e : keeps js k ≡ (λ q. eqb p q || keeps ks k q) = subst (λ (n : ℕ). keeps js n ≡ (λ q. eqb p q || keeps ks n q)) z here in
      ap (λ (f : ℕ → Bool). record { kept = f; told = told_of l k; site = x } ∷ vaults_from l js (suc k) xs) e
      ∙ ap (λ (vs : List Vault). keeping p (vault_by l ks k x) ∷ vs) (same_vaults l ks js (suc k) xs (λ n o. others n (λ q. omega arith)))
  kept_more k (suc i) (x ∷ xs) m others here =
      let z : suc i + k ≡ i + suc k = omega arith in
      by (kept_more (suc k) i xs (omega arith) (λ n d. others n (λ q. d (q ∙ z))) (subst (λ (n : ℕ). keeps js n ≡ (λ q. eqb p q || keeps ks n q)) z here))
    where
      by : vaults_from l js (suc k) xs ≡ update i (keeping p) (vaults_from l ks (suc k) xs)
          → vaults_from l js k (x ∷ xs) ≡ update (suc i) (keeping p) (vaults_from l ks k (x ∷ xs))
      by ih =
          ap (λ (f : ℕ → Bool). record { kept = f; told = told_of l k; site = x } ∷ vaults_from l js (suc k) xs) (others k (λ q. omega arith))
          ∙ ap (λ (vs : List Vault). vault_by l ks k x ∷ vs) ih

module _ {R : Type 0} (rule : Rule) (h : Held R) (i p : ℕ) where
  -- the first no, where a and b answer the two questions
  abbrev keep_asks : Bool → Bool → Option CentreFault
  keep_asks a b = first_no (asks (NoVault i) (i < length (installation naming h).vaults) a ∷ asks NoPrivilege (UserPrivilege p) b ∷ [])

  by_vault : (b : Bool) → ltb i (length h.sites) ≡ b → keep_asks (ltb i (length (installation naming h).vaults)) (is_user_privilege p) ≡ keep_asks b (is_user_privilege p)
  by_vault b q =
      ap (λ (n : ℕ). keep_asks (ltb i n) (is_user_privilege p)) (length_vaults h.ledger h.keeping 0 h.sites) ∙ ap (λ (a : Bool). keep_asks a (is_user_privilege p)) q

  pub keep_no_vault : ltb i (length h.sites) ≡ false → Ends rule (installation naming h) (Keep i p) (Err (NoVault i)) (installation naming h)
  keep_no_vault q = ends_refused rule (installation naming h) (Keep i p) (NoVault i) (by_vault false q)

  module _ (q : ltb i (length h.sites) ≡ true) where
    by_privilege : (b : Bool) → is_user_privilege p ≡ b → keep_asks (ltb i (length (installation naming h).vaults)) (is_user_privilege p) ≡ keep_asks true b
    by_privilege b r = by_vault true q ∙ ap (keep_asks true) r

    pub keep_no_privilege : is_user_privilege p ≡ false → Ends rule (installation naming h) (Keep i p) (Err NoPrivilege) (installation naming h)
    keep_no_privilege r = ends_refused rule (installation naming h) (Keep i p) NoPrivilege (by_privilege false r)

    pub keep_ends : is_user_privilege p ≡ true → length h.sites ≤ 8 → (ks : Keeping)
        → ((k v : ℕ) → keeps ks k v ≡ (keeps h.keeping k v || ((eqb v p && is_user_privilege v) && (eqb k i && ltb k 8))))
        → Ends rule (installation naming h) (Keep i p) (Ok 0)
        (installation naming (record { rule = h.rule; declared = h.declared; ledger = h.ledger; keeping = ks; sites = h.sites }))
    keep_ends r few ks kept =
        let e = ends_accepted rule (installation naming h) (Keep i p) (by_privilege true r) in
        record { answer = e.answer; then = e.then ∙ ap (λ (vs : List Vault). with_vaults vs (installation naming h)) (sym (kept_more h.ledger h.keeping ks p 0 i h.sites (ltb-true _ _ q) others here)) }
      where
        drop_no : (a b d : Bool) → (a || (b && (false && d))) ≡ a
        drop_no true b d = refl
        drop_no false true d = refl
        drop_no false false d = refl

        others : (n : ℕ) → n ≢ i + 0 → keeps ks n ≡ keeps h.keeping n
        others n d = fun_ext (λ v.
            let e : eqb n i ≡ false = grind (arith, nat_tests) in
            kept n v ∙ ap (λ (b : Bool). keeps h.keeping n v || ((eqb v p && is_user_privilege v) && (b && ltb n 8))) e ∙ drop_no (keeps h.keeping n v) (eqb v p && is_user_privilege v) (ltb n 8))

        here : keeps ks (i + 0) ≡ (λ v. eqb p v || keeps h.keeping (i + 0) v)
        here = fun_ext (λ v.
            let e : eqb (i + 0) i ≡ true = grind (arith, nat_tests) in
            let m : i < length h.sites = ltb-true _ _ q in
            let f : ltb (i + 0) 8 ≡ true = lt-ltb _ _ (omega arith) in
            kept (i + 0) v ∙ ap (λ (b : Bool). keeps h.keeping (i + 0) v || ((eqb v p && is_user_privilege v) && (b && ltb (i + 0) 8))) e
            ∙ ap (λ (b : Bool). keeps h.keeping (i + 0) v || ((eqb v p && is_user_privilege v) && (true && b))) f
            ∙ by v (keeps h.keeping (i + 0) v) (eqb v p) refl)
          where
            by : (v : ℕ) (a b : Bool) → eqb v p ≡ b → (a || ((b && is_user_privilege v) && true)) ≡ (eqb p v || a)
            by v a true s =
                let e : eqb p v ≡ true = grind (arith, nat_tests) in
                let w : v ≡ p = eqb-true v p s in
                let u : is_user_privilege v ≡ true = ap is_user_privilege w ∙ r in
                ap (λ (c : Bool). a || ((true && c) && true)) u ∙ last a ∙ ap (λ (c : Bool). c || a) (sym e)
              where
                last : (a : Bool) → (a || true) ≡ true
                last true = refl
                last false = refl
            by v a false s =
                let e : eqb p v ≡ false = grind (arith, nat_tests) in
                first a ∙ ap (λ (c : Bool). c || a) (sym e)
              where
                first : (a : Bool) → (a || false) ≡ a
                first true = refl
                first false = refl

-- Declaring

module _ {R : Type 0} (rule : Rule) (h : Held R) (c : Change) where
  pub declare_ends : (r : Answer) (D : List Change) → r ≡ centre_answer (declare_answer h.declared c) → D ≡ declared_with h.declared c
      → Ends rule (installation naming h) (Declare c) r (installation naming (record { rule = h.rule; declared = D; ledger = h.ledger; keeping = h.keeping; sites = h.sites }))
  declare_ends r D q e =
      let a = declaring_agrees rule (installation naming h) c refl in
      record { answer = a.0 ∙ sym q; then = a.1 ∙ ap (λ (E : List Change). with_declared E (installation naming h)) (sym e) }
