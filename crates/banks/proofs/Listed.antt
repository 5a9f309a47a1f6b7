-- A list of vaults, read as the list of their sites.
use Rattle.std.proofs.Common.{◌≡◌, ℕ, zero, suc, ◌<◌, true, List, [], ◌∷◌, length, map, get_or, set, Result, nat_lt, sym, ap, ◌∙◌, arith}
use Rattle.std.proofs.lemmas.List.{length-map, map-set}
use Rattle.std.proofs.lemmas.Bool.Decides.{nat_tests}
use Rattle.refusals.specs.declared.bank.BankFault.{BankFault}
use Rattle.vaults.specs.Sites.{Site, site_at, alter, asked}

site_of : {V : Type 0} (site : V → Site) (vs : List V) (i : ℕ) (v : V) → i < length vs → v ≡ get_or vs i v → site_at (map site vs) i ≡ site v
site_of site [] i v l is = absurd (omega arith)
site_of site (u ∷ vs) zero v l is = ap site (sym is)
site_of site (u ∷ vs) (suc i) v l is = site_of site vs i v (omega arith) is

-- there is such a vault: it answers, and is altered, as it is by itself
module _ {V : Type 0} (site : V → Site) (vs : List V) (i : ℕ) (v : V) (l : i < length vs) (is : v ≡ get_or vs i v) where
  there : nat_lt i (length (map site vs)) ≡ true
  there = let n : length (map site vs) ≡ length vs = length-map vs site in grind (arith, nat_tests)

  pub asked_here : (f : Site → Result (Unit {0}) BankFault) (r : Result (Unit {0}) BankFault) → r ≡ f (site v) → r ≡ asked f (map site vs) i
  asked_here f r e = rw (there, site_of site vs i v l is) e

  pub read_here : {A : Type 0} (f : Site → A) (r : A) → r ≡ f (site v) → r ≡ f (site_at (map site vs) i)
  read_here f r e = e ∙ ap f (sym (site_of site vs i v l is))

head_is : {x y : Site} → x ∷ [] ≡ y ∷ [] → x ≡ y
head_is {x} {y} e = ap (λ (xs : List Site). elim xs [ [] ↦ x | z ∷ zs ↦ z ]) e

pub alter_here : {V : Type 0} (site : V → Site) (vs : List V) (i : ℕ) (v w : V) (f : Site → Site) → i < length vs → v ≡ get_or vs i v
    → site w ∷ [] ≡ alter 0 f (site v ∷ []) → map site (set vs i w) ≡ alter i f (map site vs)
alter_here site vs i v w f l is e =
    map-set site vs i w ∙ ap (λ (x : Site). set (map site vs) i x) (head_is e ∙ ap f (sym (site_of site vs i v l is)))

pub ruleset in_list = (asked_here, read_here, alter_here)
