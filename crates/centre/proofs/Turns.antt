-- From vault to vault, by structure: what is altered, what holds of each, and what each is asked.
use Rattle.std.proofs.Common.{◌≡◌, ℕ, zero, suc, ◌+◌, ◌<◌, Bool, true, false, List, [], ◌∷◌, ◌++◌, map, length, Some, None, Ok, Err, Option, Result, is_ok, is_some, ltb, sym, refl, ap, ◌∙◌, subst, arith}
use Rattle.std.proofs.lemmas.Bool.{false≢true}
use Rattle.edges.specs.declared.edges.Change.{Change}
use Rattle.edges.specs.Edges.{edge_of, vault_edge}
use Rattle.refusals.specs.declared.link.LinkFault.{LinkFault}
use Rattle.refusals.specs.declared.link.LinkFault.TheVariants.{NoVaultEdge, Full}
use Rattle.rules.specs.declared.fault.CentreFault.{CentreFault}
use Rattle.links.specs.Links.{send_answer, sent}
use Rattle.vaults.specs.Sites.{Site, site_at, with_waiting, send_to}
use Rattle.rules.specs.Installation.{Vault}
use Rattle.rules.specs.Sending.{performs, taken, send, send_each}
use Rattle.rules.specs.Questions.{Question, asks, first_no, at_each, link_takes}
use Rattle.rules.proofs.Rounds.{Every}
use Rattle.policy.specs.declared.keeping.Keeping.{Keeping}
use Rattle.policy.specs.Ledgers.{Ledger, told_of}
use Rattle.centre.specs.Worked.{AlteredBy, sent_all}
use Rattle.centre.specs.Holding.{vault_by, vaults_from}
use Rattle.centre.specs.Room.{first_short}

-- Sites by structure

abbrev pub each : (ℕ → Site → Site) → ℕ → List Site → List Site
each f k [] = []
each f k (x ∷ xs) = f k x ∷ each f (suc k) xs

abbrev pub EachSite : (ℕ → Site → Type 0) → ℕ → List Site → Type 0
EachSite P k [] = Unit {0}
EachSite P k (x ∷ xs) = P k x × EachSite P (suc k) xs

each_from : (f : ℕ → Site → Site) (k : ℕ) (xs ys : List Site) → length ys ≡ length xs
    → ((j : ℕ) → j < length xs → site_at ys j ≡ f (j + k) (site_at xs j)) → ys ≡ each f k xs
each_from f k [] [] q h = refl
each_from f k [] (y ∷ ys) q h = absurd (omega arith)
each_from f k (x ∷ xs) [] q h = absurd (omega arith)
each_from f k (x ∷ xs) (y ∷ ys) q h =
    let z : 0 + k ≡ k = omega arith in
    let e : y ≡ f k x = subst (λ (n : ℕ). y ≡ f n x) z (h 0 (omega arith)) in
    let i : ys ≡ each f (suc k) xs = each_from f (suc k) xs ys (omega arith) (λ j l.
    let n : suc j + k ≡ j + suc k = omega arith in subst (λ (n : ℕ). site_at ys j ≡ f n (site_at xs j)) n (h (suc j) (omega arith))) in
    rw (e, i) refl

pub altered_each : (f : ℕ → Site → Site) (xs ys : List Site) → AlteredBy f xs ys → ys ≡ each f 0 xs
altered_each f xs ys a = each_from f 0 xs ys a.as_many (λ j l. let n : j ≡ j + 0 = omega arith in subst (λ (n : ℕ). site_at ys j ≡ f n (site_at xs j)) n (a.each j l))

each_site_from : (P : ℕ → Site → Type 0) (k : ℕ) (xs : List Site) → ((j : ℕ) → j < length xs → P (j + k) (site_at xs j)) → EachSite P k xs
each_site_from P k [] h = tt
each_site_from P k (x ∷ xs) h = (
  let z : 0 + k ≡ k = omega arith in subst (λ (n : ℕ). P n x) z (h 0 (omega arith)),
  each_site_from P (suc k) xs (λ j l. let n : suc j + k ≡ j + suc k = omega arith in subst (λ (n : ℕ). P n (site_at xs j)) n (h (suc j) (omega arith))),
)

pub each_site : (P : ℕ → Site → Type 0) (xs : List Site) → ((j : ℕ) → j < length xs → P j (site_at xs j)) → EachSite P 0 xs
each_site P xs h = each_site_from P 0 xs (λ j l. let n : j ≡ j + 0 = omega arith in subst (λ (n : ℕ). P n (site_at xs j)) n (h j l))

pub each_both : (P Q : ℕ → Site → Type 0) (k : ℕ) (xs : List Site) → EachSite P k xs → EachSite Q k xs → EachSite (λ j x. P j x × Q j x) k xs
each_both P Q k [] p q = tt
each_both P Q k (x ∷ xs) p q = ((p.0, q.0), each_both P Q (suc k) xs p.1 q.1)

-- What every vault keeps, of each site
pub every_site : (l : Ledger) (ks : Keeping) (P : Vault → Type 0) (k : ℕ) (xs : List Site) → Every P (vaults_from l ks k xs) → EachSite (λ j x. P (vault_by l ks j x)) k xs
every_site l ks P k [] e = tt
every_site l ks P k (x ∷ xs) e = (e.0, every_site l ks P (suc k) xs e.1)

-- Messages that a link takes wait behind the others

pub refused_not_ok : {A B : Type 0} (x : A) (f : B) → Err f ≡ Ok x → ⊥
refused_not_ok x f q = false≢true (ap is_ok q)

taken_one : (limit : ℕ) (ws : List Change) (m : Change) → send_answer limit ws m ≡ Ok tt → sent limit ws m ≡ ws ++ (m ∷ [])
taken_one limit ws m q = by (vault_edge (edge_of m)) (ltb (length ws) limit) refl refl
  where
    by : (b c : Bool) → vault_edge (edge_of m) ≡ b → ltb (length ws) limit ≡ c → sent limit ws m ≡ ws ++ (m ∷ [])
    by true true r s = rw (r, s) refl
    by true false r s =
        let no : send_answer limit ws m ≡ Err Full = rw (r, s) refl in absurd (refused_not_ok tt Full (sym no ∙ q))
    by false c r s =
        let no : send_answer limit ws m ≡ Err NoVaultEdge = rw r refl in absurd (refused_not_ok tt NoVaultEdge (sym no ∙ q))

append_assoc : (a b c : List Change) → (a ++ b) ++ c ≡ a ++ (b ++ c)
append_assoc [] b c = refl
append_assoc (m ∷ a) b c = ap (λ (ms : List Change). m ∷ ms) (append_assoc a b c)

pub append_none : (a : List Change) → a ++ [] ≡ a
append_none [] = refl
append_none (m ∷ a) = ap (λ (ms : List Change). m ∷ ms) (append_none a)

pub all_wait : (ms : List Change) (x : Site) → taken x.link_limit x.waiting ms ≡ Ok tt → sent_all ms x ≡ with_waiting (x.waiting ++ ms) x
all_wait [] x q = ap (λ (ws : List Change). with_waiting ws x) (sym (append_none x.waiting))
all_wait (m ∷ ms) x q = by (all_wait ms) (send_answer x.link_limit x.waiting m) refl q
  where
    by : ((y : Site) → taken y.link_limit y.waiting ms ≡ Ok tt → sent_all ms y ≡ with_waiting (y.waiting ++ ms) y)
        → (r : Result (Unit {0}) LinkFault) → send_answer x.link_limit x.waiting m ≡ r
        → ◌≡◌ {A = Result (Unit {0}) LinkFault} (elim r [ Ok y ↦ taken x.link_limit (x.waiting ++ (m ∷ [])) ms | Err f ↦ Err f ]) (Ok tt)
        → sent_all ms (send_to m x) ≡ with_waiting (x.waiting ++ (m ∷ ms)) x
    by ih (Ok u) r h =
        let one : sent x.link_limit x.waiting m ≡ x.waiting ++ (m ∷ []) = taken_one x.link_limit x.waiting m r in
        ap (λ (ws : List Change). sent_all ms (with_waiting ws x)) one
        ∙ ih (with_waiting (x.waiting ++ (m ∷ [])) x) h
        ∙ ap (λ (ws : List Change). with_waiting ws x) (append_assoc x.waiting (m ∷ []) ms)
    by ih (Err f) r h = absurd (refused_not_ok tt f h)

-- a refusal at the vault that was found, or what comes after
abbrev pub refused_at : (ℕ → CentreFault) → Option CentreFault → Option ℕ → Option CentreFault
refused_at fault rest None = rest
refused_at fault rest (Some j) = Some (fault j)

-- The vaults after messages were sent, and what was asked of each before

module _ (l : Ledger) (ks : Keeping) (msgs : Vault → List Change) where
  -- a link takes all messages for its vault
  abbrev pub Takes : ℕ → Site → Type 0
  Takes k x = taken x.link_limit x.waiting (msgs (vault_by l ks k x)) ≡ Ok tt

  pub none_refuses : (k : ℕ) (xs : List Site) → EachSite Takes k xs → first_no (at_each link_takes k (vaults_from l ks k xs) (map msgs (vaults_from l ks k xs))) ≡ None
  none_refuses k [] t = refl
  none_refuses k (x ∷ xs) t = rw t.0 (none_refuses (suc k) xs t.1)

  -- the new ledger and the new site are what sending makes of the vault
  pub record Sends (m : Ledger) (f : ℕ → Site → Site) (k : ℕ) (x : Site) : Type 0 where
    pub told : told_of m k ≡ performs (msgs (vault_by l ks k x)) (told_of l k)
    pub site : f k x ≡ with_waiting (x.waiting ++ msgs (vault_by l ks k x)) x

  pub sends_each : (m : Ledger) (f : ℕ → Site → Site) (k : ℕ) (xs : List Site) → EachSite (Sends m f) k xs
      → vaults_from m ks k (each f k xs) ≡ send_each (map msgs (vaults_from l ks k xs)) (vaults_from l ks k xs)
  sends_each m f k [] s = refl
  sends_each m f k (x ∷ xs) s = by (sends_each m f (suc k) xs s.1)
    where
      here : vault_by m ks k (f k x) ≡ send (msgs (vault_by l ks k x)) (vault_by l ks k x)
      here = rw (s.0.told, s.0.site) refl

      by : vaults_from m ks (suc k) (each f (suc k) xs) ≡ send_each (map msgs (vaults_from l ks (suc k) xs)) (vaults_from l ks (suc k) xs)
          → vaults_from m ks k (each f k (x ∷ xs)) ≡ send_each (map msgs (vaults_from l ks k (x ∷ xs))) (vaults_from l ks k (x ∷ xs))
      by ih = rw (here, ih) refl

  -- one question at each vault: the first no is that of the lowest vault that is short
  module _ (fault : ℕ → CentreFault) (A : Vault → List Change → Type 0) (test : Vault → List Change → Bool) (fits : ℕ → Bool) where
    abbrev pub Tells : ℕ → Site → Type 0
    Tells k x = test (vault_by l ks k x) (msgs (vault_by l ks k x)) ≡ fits k

    pub first_at : (k : ℕ) (xs : List Site) (rest : List Question) → EachSite Tells k xs
        → first_no (at_each (λ i v ms. asks (fault i) (A v ms) (test v ms) ∷ []) k (vaults_from l ks k xs) (map msgs (vaults_from l ks k xs)) ++ rest)
        ≡ refused_at fault (first_no rest) (first_short fits k (length xs))
    first_at k [] rest t = refl
    first_at k (x ∷ xs) rest t = rw t.0 (by (fits k) (first_at (suc k) xs rest t.1))
      where
        by : (b : Bool) → first_no (at_each (λ i v ms. asks (fault i) (A v ms) (test v ms) ∷ []) (suc k) (vaults_from l ks (suc k) xs) (map msgs (vaults_from l ks (suc k) xs)) ++ rest)
            ≡ refused_at fault (first_no rest) (first_short fits (suc k) (length xs))
            → first_no (asks (fault k) (A (vault_by l ks k x) (msgs (vault_by l ks k x))) b ∷ (at_each (λ i v ms. asks (fault i) (A v ms) (test v ms) ∷ []) (suc k) (vaults_from l ks (suc k) xs) (map msgs (vaults_from l ks (suc k) xs)) ++ rest))
            ≡ refused_at fault (first_no rest) (elim b [ true ↦ first_short fits (suc k) (length xs) | false ↦ Some k ])
        by true ih = ih
        by false ih = refl

-- where none is short all fit
pub none_short : (fits : ℕ → Bool) (k n : ℕ) → first_short fits k n ≡ None → (j : ℕ) → j < n → fits (j + k) ≡ true
none_short fits k zero q j l = absurd (omega arith)
none_short fits k (suc n) q j l = by (none_short fits (suc k) n) (fits k) refl q j l
  where
    by : (first_short fits (suc k) n ≡ None → (j : ℕ) → j < n → fits (j + suc k) ≡ true) → (b : Bool) → fits k ≡ b
        → ◌≡◌ {A = Option ℕ} (elim b [ true ↦ first_short fits (suc k) n | false ↦ Some k ]) None → (j : ℕ) → j < suc n → fits (j + k) ≡ true
    by ih true r h zero m = let z : 0 + k ≡ k = omega arith in subst (λ (n : ℕ). fits n ≡ true) (sym z) r
    by ih true r h (suc j) m = let e : j + suc k ≡ suc j + k = omega arith in subst (λ (n : ℕ). fits n ≡ true) e (ih h j (omega arith))
    by ih false r h j m = absurd (false≢true (sym (ap is_some h)))
