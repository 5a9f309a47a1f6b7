-- The first message that waits at a vault, performed on its table.
use Rattle.std.specs.Prelude.{◌≡◌, ℕ, cond, List, [], ◌∷◌, length, Ok, Err, Result, nat_lt}
use Rattle.edges.specs.declared.edges.Change.{Change}
use Rattle.rules.specs.declared.fault.CentreFault.{CentreFault}
use Rattle.rules.specs.declared.fault.CentreFault.TheVariants.{NoVault, NothingWaiting}
use Rattle.vaults.specs.Sites.{Site, site_at, alter}
use Rattle.rules.specs.Questions.{store_answer}
use Rattle.centre.specs.Worked.{store_fault}
use Rattle.centre.specs.Holding.{Held}
use Rattle.centre.specs.Sendings.{SameRest}

abbrev pub head_result : ℕ → List Change → Site → Result (Unit {0}) CentreFault
head_result k [] x = Err (NothingWaiting k)
head_result k (m ∷ ms) x = store_fault k (store_answer m x)

abbrev pub perform_result : ℕ → List Site → Result (Unit {0}) CentreFault
perform_result k xs = cond (nat_lt k (length xs)) (head_result k (site_at xs k).waiting (site_at xs k)) (Err (NoVault k))

-- the site of vault k is altered by f if that was not refused, and nothing else is
abbrev pub sites_after : (Site → Site) → ℕ → Result (Unit {0}) CentreFault → List Site → List Site
sites_after f k (Ok x) xs = alter k f xs
sites_after f k (Err g) xs = xs

module _ {R : Type 0} where
  pub record Visited (f : Site → Site) (k : ℕ) (h : Held R) (r : Result (Unit {0}) CentreFault) (x : Held R) : Type 0 where
    pub answer : r ≡ perform_result k h.sites
    pub sites : x.sites ≡ sites_after f k r h.sites
    pub ledger : x.ledger ≡ h.ledger
    pub rest : SameRest h x
