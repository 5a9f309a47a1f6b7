-- What is found out about an edge before it is added, and whether there is room for it.
use Rattle.std.specs.Prelude.{◌≡◌, ℕ, zero, suc, ◌+◌, ◌*◌, Bool, true, false, length, Some, None, Ok, Err, Option, Result, nat_le}
use Rattle.edges.specs.declared.edges.Edge.{Edge}
use Rattle.edges.specs.Edges.{is_role}
use Rattle.rules.specs.declared.fault.CentreFault.{CentreFault}
use Rattle.rules.specs.declared.fault.CentreFault.TheVariants.{StoreRoom, LinkRoom}
use Rattle.edge_sets.specs.BitRows.{has_role}
use Rattle.vaults.specs.Sites.{site_at}
use Rattle.graph.specs.Paths.{reaches}
use Rattle.graph.specs.Paths.{concerns}
use Rattle.policy.specs.declared.addition.Addition.{Addition}
use Rattle.policy.specs.VaultSets.{has_vault}
use Rattle.policy.specs.Keepings.{keeps}
use Rattle.policy.specs.Ledgers.{told_of}
use Rattle.policy.specs.Additions.{due_number}
use Rattle.centre.specs.Holding.{Held}

module _ {R : Type 0} where
  -- the vertices that lead to where the edge comes from, and the vaults that it concerns
  pub record About (h : Held R) (e : Edge) (a : Addition) : Type 0 where
    pub edge : a.edge ≡ e
    pub behind : (x : ℕ) → is_role x ≡ true → has_role a.behind.word x ≡ reaches h.ledger.edges x e.from
    pub concerned : (k : ℕ) → has_vault a.concerned k ≡ concerns h.ledger.edges (keeps h.keeping k) e.to 256

  -- the store of vault k has room for all that it is told of, and for what the addition brings
  abbrev pub store_fits : Addition → Held R → ℕ → Bool
  store_fits a h k = nat_le (length (told_of h.ledger k) + due_number a h.ledger k) (site_at h.sites k).store_limit

  -- its link has room for what waits, for the withdrawal of all that, and for what the addition brings and its withdrawal
  abbrev pub link_fits : Addition → Held R → ℕ → Bool
  link_fits a h k =
      nat_le (length (site_at h.sites k).waiting + length (told_of h.ledger k) + 2 * due_number a h.ledger k) (site_at h.sites k).link_limit

-- the lowest number, of n from k on, that does not fit
abbrev pub first_short : (ℕ → Bool) → ℕ → ℕ → Option ℕ
first_short fits k zero = None
first_short fits k (suc n) = elim (fits k) [ true ↦ first_short fits (suc k) n | false ↦ Some k ]

-- the number found before, or else this one if it does not fit
abbrev pub earliest : Option ℕ → ℕ → Bool → Option ℕ
earliest (Some k) v b = Some k
earliest None v true = None
earliest None v false = Some v

-- the stores are asked before the links, and the refusal names the lowest vault that is short
abbrev pub room_by : Option ℕ → Option ℕ → Result (Unit {0}) CentreFault
room_by (Some k) o = Err (StoreRoom k)
room_by None (Some k) = Err (LinkRoom k)
room_by None None = Ok tt

module _ {R : Type 0} where
  abbrev pub room_answer : Addition → Held R → Result (Unit {0}) CentreFault
  room_answer a h = room_by (first_short (store_fits a h) 0 (length h.sites)) (first_short (link_fits a h) 0 (length h.sites))
