-- What a link means: the messages that wait, the oldest first, and a limit.
use Rattle.std.specs.Prelude.{ℕ, if◌then◌else◌, ◌&&◌, List, [], ◌∷◌, ◌++◌, length, Ok, Err, Option, Result, nat_lt}
use Rattle.std.specs.List.{slice_get}
use Rattle.edges.specs.declared.edges.Change.{Change}
use Rattle.edges.specs.declared.limit_range.LimitRange.{LimitRange}
use Rattle.edges.specs.LimitRange.{limit_of}
use Rattle.edges.specs.Edges.{edge_of, vault_edge}
use Rattle.refusals.specs.declared.link.LinkFault.{LinkFault}
use Rattle.refusals.specs.declared.link.LinkFault.TheVariants.{NoVaultEdge, Full}

-- whether a message is taken where n wait: the first question that is answered no
abbrev pub admits : ℕ → ℕ → Change → Result (Unit {0}) LinkFault
admits limit n m = if vault_edge (edge_of m) then (if nat_lt n limit then Ok tt else Err Full) else Err NoVaultEdge

-- the answer to a message that is sent
abbrev pub send_answer : ℕ → List Change → Change → Result (Unit {0}) LinkFault
send_answer limit ms m = admits limit (length ms) m

-- and the list after it
abbrev pub sent : ℕ → List Change → Change → List Change
sent limit ms m = if vault_edge (edge_of m) && nat_lt (length ms) limit then ms ++ (m ∷ []) else ms

-- the oldest message, or none
abbrev pub first : List Change → Option Change
first ms = slice_get ms 0

abbrev pub rest : List Change → List Change
rest [] = []
rest (m ∷ ms) = ms

-- the limits that a link may be made with
abbrev pub link_limits : LimitRange
link_limits = record { least = 2; most = 1024 }

-- the limit of a link that was made with n: any other number gives a link that takes nothing
abbrev pub link_limit : ℕ → ℕ
link_limit n = limit_of link_limits n
