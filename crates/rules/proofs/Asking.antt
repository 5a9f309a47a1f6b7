-- Lists of questions: the first no, and what holds of every question.
use Rattle.std.proofs.Common.{◌≡◌, ℕ, suc, Bool, true, false, cond, ◌⊎◌, List, [], ◌∷◌, ◌++◌, sym, ◌∙◌, inl, inr, ⊎_elim}
use Rattle.edges.specs.declared.edges.Change.{Change}
use Rattle.rules.specs.declared.fault.CentreFault.{CentreFault}
use Rattle.rules.specs.Installation.{Vault}
use Rattle.rules.specs.Sending.{Each}
use Rattle.rules.specs.Questions.{Question, asks, AllYes, FirstNo, at_each}

pub yes_append : (a b : List Question) → AllYes (a ++ b) → AllYes a × AllYes b
yes_append [] b h = (tt, h)
yes_append (asks f A t ∷ a) b h = let k = yes_append a b h.1 in ((h.0, k.0), k.1)

pub first_append : (a b : List Question) (g : CentreFault) → FirstNo (a ++ b) g → FirstNo a g ⊎ (AllYes a × FirstNo b g)
first_append [] b g n = inr (tt, n)
first_append (asks f A t ∷ a) b g (inl n) = inl (inl n)
first_append (asks f A t ∷ a) b g (inr n) = ⊎_elim (λ k. inl (inr (n.0, k))) (λ k. inr ((n.0, k.0), k.1)) (first_append a b g n.1)

-- where all answers are yes there is no refusal, and there is only one first
pub none_refused : (f : CentreFault) (qs : List Question) → AllYes qs → FirstNo qs f → ⊥
none_refused f [] y n = n
none_refused f (asks g A b ∷ qs) y (inl n) = n.0 y.0
none_refused f (asks g A b ∷ qs) y (inr n) = none_refused f qs y.1 n.1

pub one_refusal : (f g : CentreFault) (qs : List Question) → FirstNo qs f → FirstNo qs g → f ≡ g
one_refusal f g [] m n = absurd m
one_refusal f g (asks h A b ∷ qs) (inl m) (inl n) = m.1 ∙ sym n.1
one_refusal f g (asks h A b ∷ qs) (inl m) (inr n) = absurd (m.0 n.0)
one_refusal f g (asks h A b ∷ qs) (inr m) (inl n) = absurd (n.0 m.0)
one_refusal f g (asks h A b ∷ qs) (inr m) (inr n) = one_refusal f g qs m.1 n.1

-- what was asked of each vault, and answered yes
pub each_yes : (ask : ℕ → Vault → List Change → List Question) (R S : Vault → List Change → Type 0)
    → ((i : ℕ) (v : Vault) (ms : List Change) → AllYes (ask i v ms) → S v ms)
    → (i : ℕ) (vs : List Vault) (mss : List (List Change)) → Each R vs mss → AllYes (at_each ask i vs mss) → Each S vs mss
each_yes ask R S f i [] [] k y = tt
each_yes ask R S f i [] (ms ∷ mss) k y = k
each_yes ask R S f i (v ∷ vs) [] k y = k
each_yes ask R S f i (v ∷ vs) (ms ∷ mss) k y =
    let z = yes_append (ask i v ms) (at_each ask (suc i) vs mss) y in
    (f i v ms z.0, each_yes ask R S f (suc i) vs mss k.1 z.1)

-- P holds of every question
abbrev pub Asked : (CentreFault → Type 0 → Bool → Type 0) → List Question → Type 0
Asked P [] = Unit {0}
Asked P (asks f A b ∷ qs) = P f A b × Asked P qs

module _ (P : CentreFault → Type 0 → Bool → Type 0) where
  pub asked_append : (a b : List Question) → Asked P a → Asked P b → Asked P (a ++ b)
  asked_append [] b h k = k
  asked_append (asks f A t ∷ a) b h k = (h.0, asked_append a b h.1 k)

  pub asked_each : (ask : ℕ → Vault → List Change → List Question) → ((i : ℕ) (v : Vault) (ms : List Change) → Asked P (ask i v ms))
      → (i : ℕ) (vs : List Vault) (mss : List (List Change)) → Asked P (at_each ask i vs mss)
  asked_each ask k i [] mss = tt
  asked_each ask k i (v ∷ vs) [] = tt
  asked_each ask k i (v ∷ vs) (ms ∷ mss) =
      asked_append (ask i v ms) (at_each ask (suc i) vs mss) (k i v ms) (asked_each ask k (suc i) vs mss)

  pub asked_cond : (b : Bool) (p q : List Question) → Asked P p → Asked P q → Asked P (cond b p q)
  asked_cond true p q h k = h
  asked_cond false p q h k = k
