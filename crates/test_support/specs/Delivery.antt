-- A message that waits at a vault, performed on its table.
use Rattle.std.specs.Prelude.{List, [], ◌∷◌, Ok, Err, Result}
use Rattle.edges.specs.declared.edges.Change.{Change}
use Rattle.edges.specs.declared.edges.Change.TheVariants.{Add, Remove}
use Rattle.refusals.specs.declared.bank.BankFault.{BankFault}
use Rattle.vaults.specs.Sites.{Site, strike_at, put_into, drop_from, store_says, accepted}

-- what the table of a site says of a message
abbrev pub table_says : Change → Site → Result (Unit {0}) BankFault
table_says (Add e) = store_says e
table_says (Remove e) = accepted

-- and the site after it
abbrev pub performed : Change → Site → Site
performed (Add e) = put_into e
performed (Remove e) = drop_from e

-- what is performed is struck, and what is refused waits on
abbrev pub struck_if : Result (Unit {0}) BankFault → Site → Site
struck_if (Ok u) x = strike_at x
struck_if (Err f) x = x

-- the first of some messages; with none there is nothing to do
abbrev pub first_done : List Change → Site → Site
first_done [] x = x
first_done (m ∷ ms) x = struck_if (table_says m x) (performed m x)

abbrev pub first_says : List Change → Site → Result (Unit {0}) BankFault
first_says [] x = Ok tt
first_says (m ∷ ms) x = table_says m x

abbrev pub delivered : Site → Site
delivered x = first_done x.waiting x

abbrev pub delivery_answer : Site → Result (Unit {0}) BankFault
delivery_answer x = first_says x.waiting x
