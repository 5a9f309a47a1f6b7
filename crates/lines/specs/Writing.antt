-- The text of a call: its vertices by their nodes.
use Rattle.std.specs.Prelude.{◌≡◌, ℕ, zero, suc, ◌-◌, not, ◌++◌, length, drop, Ok, Err, Result, if◌then◌else◌, List, [], ◌∷◌, Some, None, Option, nat_lt}
use Rattle.std.specs.Fmt.{decimal}
use Rattle.edges.specs.declared.edges.Change.{Change}
use Rattle.edges.specs.Edges.{edge_of, is_user}
use Rattle.lines.specs.declared.fault.WriteFault.{WriteFault}
use Rattle.lines.specs.declared.fault.WriteFault.TheVariants.{NoUser, NoEdge, NoRoom}
use Rattle.calls.specs.declared.call.Call.{Call}
use Rattle.calls.specs.declared.call.Call.TheVariants.{Declare, Keep, EndNaming, Seat, Open, Command, Apply, Deliver}
use Rattle.privileges.specs.Privileges.{named, is_proper}
use Rattle.lines.specs.declared.letters.Letter.TheVariants.{User, Role, Privilege, Vault}
use Rattle.lines.specs.Spelling.{sign_in, Node, leaf, pair, Part, mark, sign, numbered, node, spelt_parts}

-- a user, a role or a user privilege
abbrev pub leaf_of : ℕ → Node
leaf_of v =
    if nat_lt v 64 then leaf User (decimal v)
    else if nat_lt v 128 then leaf Role (decimal (v - 64))
    else leaf Privilege (decimal (v - 128))

-- the node of a vertex, with at most d brackets in one another
abbrev pub node_of : List Change → ℕ → ℕ → Node
node_of D zero v = leaf_of v
node_of D (suc d) v =
    elim (named D v) [ None ↦ leaf_of v | Some c ↦ pair (sign_in c) (node_of D d (edge_of c).from) (node_of D d (edge_of c).to) ]

abbrev pub vertex : List Change → ℕ → Part
vertex D v = node (node_of D 8 v)

-- Ending the naming and applying have no line of their own.
abbrev pub parts_of : List Change → Call → List Part
parts_of D (Declare c) =
    mark 68 ∷ mark 32 ∷ sign (sign_in c) ∷ mark 40 ∷ vertex D (edge_of c).from ∷ mark 44 ∷ vertex D (edge_of c).to ∷ mark 41 ∷ []
parts_of D (Keep i p) = mark 75 ∷ mark 32 ∷ vertex D p ∷ mark 32 ∷ numbered Vault (decimal i) ∷ []
parts_of D EndNaming = []
parts_of D (Seat e) = mark 83 ∷ mark 32 ∷ vertex D e.from ∷ mark 32 ∷ vertex D e.to ∷ []
parts_of D Open = mark 79 ∷ []
parts_of D (Command u c) =
    numbered User (decimal u) ∷ mark 32 ∷ sign (sign_in c) ∷ mark 32 ∷ vertex D (edge_of c).from ∷ mark 32 ∷ vertex D (edge_of c).to ∷ []
parts_of D (Apply i) = []
parts_of D (Deliver i) = mark 84 ∷ mark 32 ∷ numbered Vault (decimal i) ∷ []

abbrev pub text_of : List Change → Call → List ℕ
text_of D c = spelt_parts (parts_of D c)

-- The writer of commands asks for a user, an edge that has no undeclared privilege in it, and room for any line.
abbrev pub write_answer : List Change → ℕ → Change → ℕ → Option WriteFault
write_answer D u c room =
    if not (is_user u) then Some NoUser
    else if not (is_proper D (edge_of c)) then Some NoEdge
    else if nat_lt room 128 then Some NoRoom
    else None

-- It writes the line at the start and tells how long it is, or alters nothing.
abbrev pub WroteLine : List Change → ℕ → Change → List ℕ → List ℕ → ℕ → Type 0
WroteLine D u c before after n = (n ≡ length (text_of D (Command u c))) × (after ≡ text_of D (Command u c) ++ drop n before)

abbrev pub Wrote : List Change → ℕ → Change → List ℕ → List ℕ → Result ℕ WriteFault → Type 0
Wrote D u c before after (Ok n) =
    (write_answer D u c (length before) ≡ None) × WroteLine D u c before after n
Wrote D u c before after (Err f) = (write_answer D u c (length before) ≡ Some f) × (after ≡ before)
