-- Declaring: what it answers, and what holds of all that is declared.
use Rattle.std.specs.Prelude.{◌≡◌, ℕ, ◌+◌, ◌≤◌, not, if◌then◌else◌, List, length, take, Some, None, Ok, Err, Option, Result, nat_lt}
use Rattle.std.specs.List.{slice_get}
use Rattle.edges.specs.declared.edges.Change.{Change}
use Rattle.edges.specs.Edges.{edge_of}
use Rattle.privileges.specs.declared.fault.DeclareFault.{DeclareFault}
use Rattle.privileges.specs.declared.fault.DeclareFault.TheVariants.{NoEdge, TooDeep, NamesFull}
use Rattle.privileges.specs.Privileges.{Proper, Shallow, declared, place_of, declaring, is_proper, is_shallow}

-- At most 128, each about an edge that has only earlier ones in it, none nested deeper than 8, and none twice.
pub record IsOrdered (D : List Change) : Type 0 where
  pub few : length D ≤ 128
  pub inner_first : (i : ℕ) (c : Change) → slice_get D i ≡ Some c → Proper (take i D) (edge_of c)
  pub depths : (i : ℕ) (c : Change) → slice_get D i ≡ Some c → Shallow D 8 c
  pub once : (i : ℕ) (c : Change) → slice_get D i ≡ Some c → place_of D c ≡ i

-- the number of a declared privilege
abbrev pub found : List Change → Change → Option ℕ
found D c = if declared D c then Some (256 + place_of D c) else None

-- the answer to a declaring: the first question that is answered no, or the number
abbrev pub declare_answer : List Change → Change → Result ℕ DeclareFault
declare_answer D c =
    if not (is_proper D (edge_of c)) then Err NoEdge
    else if declared D c then Ok (256 + place_of D c)
    else if not (is_shallow D 8 c) then Err TooDeep
    else if not (nat_lt (length D) 128) then Err NamesFull
    else Ok (256 + place_of D c)

-- and what is declared then
abbrev pub declared_with : List Change → Change → List Change
declared_with D c = elim (declare_answer D c) [ Ok n ↦ declaring D c | Err f ↦ D ]
