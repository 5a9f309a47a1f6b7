-- What a bank means: a list of sites. A site is what stands at a vault: its link, by the messages that wait and
-- their limit, and its store, by the table and its limit.
use Rattle.std.specs.Prelude.{ℕ, ◌≤◌, cond, List, [], ◌∷◌, length, Ok, Err, Result, nat_lt, slice_index_or, slice_set}
use Rattle.edges.specs.declared.edges.Edge.{Edge}
use Rattle.edges.specs.declared.edges.Change.{Change}
use Rattle.edge_sets.specs.EdgeSets.{Edges, Table, delete}
use Rattle.refusals.specs.declared.link.LinkFault.{LinkFault}
use Rattle.links.specs.Links.{send_answer, sent, rest}
use Rattle.refusals.specs.declared.store.StoreFault.{StoreFault}
use Rattle.stores.specs.Stores.{put_answer, put}
use Rattle.refusals.specs.declared.bank.BankFault.{BankFault}
use Rattle.refusals.specs.declared.bank.BankFault.TheVariants.{NoVault, Link, Store}

pub record Site : Type 0 where
  pub waiting : List Change
  pub link_limit : ℕ
  pub table : Edges
  pub store_limit : ℕ

-- what is read of a vault that is not there: nothing waits, nothing is held, nothing is taken
abbrev pub no_site : Site
no_site = record { waiting = []; link_limit = 0; table = []; store_limit = 0 }

abbrev pub site_at : List Site → ℕ → Site
site_at xs v = slice_index_or xs v no_site

-- one site altered, all others as they were; past the end nothing is
abbrev pub alter : ℕ → (Site → Site) → List Site → List Site
alter v f xs = slice_set xs v (f (site_at xs v))

-- What each change does to its site

abbrev pub with_waiting : List Change → Site → Site
with_waiting ms x = record x { waiting = ms }

abbrev pub with_table : Edges → Site → Site
with_table s x = record x { table = s }

abbrev pub send_to : Change → Site → Site
send_to m x = with_waiting (sent x.link_limit x.waiting m) x

abbrev pub strike_at : Site → Site
strike_at x = with_waiting (rest x.waiting) x

abbrev pub put_into : Edge → Site → Site
put_into e x = with_table (put x.store_limit x.table e) x

abbrev pub drop_from : Edge → Site → Site
drop_from e x = with_table (delete e x.table) x

-- What each change answers: is there such a vault, and then what its link or its store says

abbrev pub of_link : Result (Unit {0}) LinkFault → Result (Unit {0}) BankFault
of_link (Ok x) = Ok x
of_link (Err f) = Err (Link f)

abbrev pub of_store : Result (Unit {0}) StoreFault → Result (Unit {0}) BankFault
of_store (Ok x) = Ok x
of_store (Err f) = Err (Store f)

abbrev pub link_says : Change → Site → Result (Unit {0}) BankFault
link_says m x = of_link (send_answer x.link_limit x.waiting m)

abbrev pub store_says : Edge → Site → Result (Unit {0}) BankFault
store_says e x = of_store (put_answer x.store_limit x.table e)

abbrev pub accepted : Site → Result (Unit {0}) BankFault
accepted x = Ok tt

-- what the site of vault v says, if there is such a vault
abbrev pub asked : (Site → Result (Unit {0}) BankFault) → List Site → ℕ → Result (Unit {0}) BankFault
asked says xs v = cond (nat_lt v (length xs)) (says (site_at xs v)) (Err NoVault)

-- What every bank keeps

abbrev pub AllTables : List Site → Type 0
AllTables [] = Unit {0}
AllTables (x ∷ xs) = Table x.table × AllTables xs

abbrev pub AllBounded : List Site → Type 0
AllBounded [] = Unit {0}
AllBounded (x ∷ xs) = (length x.waiting ≤ x.link_limit) × (length x.table ≤ x.store_limit) × AllBounded xs
