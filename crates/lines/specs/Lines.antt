-- Lines that are well formed, and all that is wrong in one: numbers out of range and signs nested too deep.
use Rattle.std.specs.Prelude.{◌≡◌, ℕ, zero, suc, ◌+◌, Bool, true, false, ◌&&◌, if◌then◌else◌, List, [], ◌∷◌, ◌++◌, length}
use Rattle.lines.specs.declared.fault.TextFault.{TextFault}
use Rattle.lines.specs.declared.fault.TextFault.TheVariants.{OutOfRange, TooDeep}
use Rattle.lines.specs.declared.letters.Letter.{Letter}
use Rattle.lines.specs.declared.letters.Letter.TheVariants.{User, Role, Privilege, Vault}
use Rattle.lines.specs.declared.signs.Sign.{Sign}
use Rattle.lines.specs.Spelling.{told, is_numeral, Node, leaf, pair, spelt, Part, mark, sign, numbered, node, spelt_part}
use Rattle.lines.specs.Reading.{Need, a_byte, a_sign, a_letter, a_node, a_number, more_digits, Ranges, in_range}

-- no vault stands in a node
abbrev pub is_node_letter : Letter → Bool
is_node_letter User = true
is_node_letter Role = true
is_node_letter Privilege = true
is_node_letter Vault = false

-- however large its numbers are, and however deep it is nested
abbrev pub well_formed : Node → Bool
well_formed (leaf l ds) = is_node_letter l && is_numeral ds
well_formed (pair s a b) = well_formed a && well_formed b

-- the part that a need is for
pub data Suits : Need → Part → Type 0 where
  for_byte : {x : ℕ} → Suits (a_byte x) (mark x)
  for_sign : {s : Sign} → Suits a_sign (sign s)
  for_letter : {l : Letter} {ds : List ℕ} → is_numeral ds ≡ true → Suits (a_letter l) (numbered l ds)
  for_node : {d : ℕ} {t : Node} → well_formed t ≡ true → Suits (a_node d) (node t)

-- a well-formed line, by its parts
pub data Line : List Need → List Part → Type 0 where
  no_more : Line [] []
  before : {n : Need} {p : Part} {ns : List Need} {ps : List Part} → Suits n p → Line ns ps → Line (n ∷ ns) (p ∷ ps)

-- All refusals that a well-formed line has, from left to right

abbrev pub number_refusals : Ranges → ℕ → Letter → List ℕ → List TextFault
number_refusals r c l ds = if in_range r l (told 0 ds) then [] else OutOfRange c ∷ []

abbrev pub node_refusals : Ranges → ℕ → ℕ → Node → List TextFault
node_refusals r d c (leaf l ds) = number_refusals r c l ds
node_refusals r zero c (pair s a b) =
    TooDeep c ∷ (node_refusals r zero (c + 2) a ++ node_refusals r zero (c + 2 + length (spelt a) + 1) b)
node_refusals r (suc d) c (pair s a b) =
    node_refusals r d (c + 2) a ++ node_refusals r d (c + 2 + length (spelt a) + 1) b

abbrev pub part_refusals : Ranges → Need → ℕ → Part → List TextFault
part_refusals r n c (mark x) = []
part_refusals r n c (sign s) = []
part_refusals r n c (numbered l ds) = number_refusals r c l ds
part_refusals r (a_node d) c (node t) = node_refusals r d c t
part_refusals r (a_byte x) c (node t) = []
part_refusals r a_sign c (node t) = []
part_refusals r (a_letter l) c (node t) = []
part_refusals r (a_number l k) c (node t) = []
part_refusals r (more_digits l k n) c (node t) = []

abbrev pub refusals : Ranges → List Need → ℕ → List Part → List TextFault
refusals r [] c ps = []
refusals r (n ∷ ns) c [] = []
refusals r (n ∷ ns) c (p ∷ ps) = part_refusals r n c p ++ refusals r ns (c + length (spelt_part p)) ps
