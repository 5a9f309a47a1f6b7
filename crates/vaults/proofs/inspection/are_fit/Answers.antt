use Rattle.std.proofs.Common.{◌≡◌, ℕ, ◌+◌, ◌<◌, Bool, true, false, List, length, refl, subst, rules, arith, ◌∙◌, MatchBool}
use borrow.Author.Tests.{tests}
use Rattle.std.specs.List.{AllWithin, HoldsAt, range_with_len}
use Rattle.std.proofs.lemmas.Iterator.{cases_from_all, YieldsList-from_range}
use Rattle.std.proofs.lemmas.List.FromFn.{get_or-range_with_len}
use Rattle.vaults.specs.Sites.{Site, site_at}
use Rattle.vaults.specs.Fitness.{IsFitSite, IsFit}
use Rattle.vaults.proofs.inspection.are_fit.Goals as goal

-- what was asked of the first eight numbers, one by one
of_eight : (Yes : ℕ → Type 0) (No : Type 0) (r : Bool)
    → MatchBool r (AllWithin Yes (range_with_len 0 8) 0 8) ((k : ℕ) × (k < 8) × HoldsAt (λ _. No) (range_with_len 0 8) k)
    → MatchBool r ((v : ℕ) → v < 8 → Yes v) No
of_eight Yes No true all = λ v l. let z : 0 + v ≡ v = omega arith in subst Yes (get_or-range_with_len 0 8 v 0 l ∙ z) (all v 0 (omega arith) l)
of_eight Yes No false one = one.2 0

pub returns : goal.returns
returns g c =
    let sites : List Site = g.B.Bank.sites c.args.bank.now in
    let Yes : ℕ → Type 0 = λ v. v < length sites → IsFitSite (site_at sites v) in
    let No : Type 0 = IsFit sites → ⊥ in
    of_eight Yes No c.all.result
    (cases_from_all _ _ _ Yes (λ _. No) c.all.ensures.ran (YieldsList-from_range 0 8 8 refl refl) (λ x q k. search (rules, tests)) (λ x q k. search (rules, tests)))
