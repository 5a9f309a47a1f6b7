-- The refusals of a well-formed line: their columns ascend, and no digit stands there.
use Rattle.std.proofs.Common.{◌≡◌, ℕ, zero, suc, ◌+◌, ◌≤◌, ◌<◌, Bool, true, false, ◌⊎◌, inl, inr, if◌then◌else◌, List, [], ◌∷◌, ◌++◌, length, drop, sym, refl, ap, ◌∙◌, subst, arith, length-append}
use Rattle.std.proofs.Math.Seq.{drop-append-add}
use Rattle.lines.specs.declared.fault.TextFault.{TextFault}
use Rattle.lines.specs.declared.fault.TextFault.TheVariants.{Malformed, OutOfRange, TooDeep, Undeclared}
use Rattle.lines.specs.declared.letters.Letter.{Letter}
use Rattle.lines.specs.declared.signs.Sign.{Sign}
use Rattle.lines.specs.Spelling.{letter_byte, sign_byte, told, still, Node, leaf, pair, spelt, Part, mark, sign, numbered, node, spelt_part, spelt_parts}
use Rattle.lines.specs.Reading.{Need, a_byte, a_sign, a_letter, a_node, a_number, more_digits, Ranges, in_range}
use Rattle.lines.specs.Lines.{number_refusals, node_refusals, part_refusals, refusals}
use Rattle.lines.specs.Faults.{column_of}
use Rattle.lines.specs.Columns.{Among}
use Rattle.lines.proofs.Forwards.{letter_still, sign_still}

-- a refusal of text from column c on: where it stands, and that no digit stands there and no byte is wrong
pub record Mark (c : ℕ) (s : List ℕ) (f : TextFault) : Type 0 where
  pub place : ℕ
  pub column : column_of f ≡ place + c
  pub within : place < length s
  pub no_digit : still (drop place s) ≡ true
  pub right : (k : ℕ) → f ≡ Malformed k → ⊥

-- refusals whose columns ascend from a to below b, each of which is marked
pub data Marked (c : ℕ) (s : List ℕ) : ℕ → List TextFault → Type 0 where
  no_mark : {a : ℕ} → Marked c s a []
  a_mark : {a : ℕ} {f : TextFault} {fs : List TextFault} → Mark c s f → a ≤ column_of f → Marked c s (suc (column_of f)) fs → Marked c s a (f ∷ fs)

-- text behind, or before, changes none of it
still_front : (i : ℕ) (s t : List ℕ) → i < length s → still (drop i (s ++ t)) ≡ still (drop i s)
still_front i [] t l = absurd (omega arith)
still_front zero (x ∷ s) t l = refl
still_front (suc i) (x ∷ s) t l = still_front i s t (omega arith)

marked_front : {c : ℕ} {s : List ℕ} {a : ℕ} {fs : List TextFault} (t : List ℕ) → Marked c s a fs → Marked c (s ++ t) a fs
marked_front t no_mark = no_mark
marked_front {c} {s} t (a_mark {f = f} m l more) =
    a_mark (record { place = m.place; column = m.column; within = let w = m.within in omega (arith, length-append s t); no_digit = still_front m.place s t m.within ∙ m.no_digit; right = m.right }) l (marked_front t more)

marked_back : {c : ℕ} {t : List ℕ} {a : ℕ} {fs : List TextFault} (s : List ℕ) (b : ℕ) → b + length s ≡ c → Marked c t a fs → Marked b (s ++ t) a fs
marked_back s b e no_mark = no_mark
marked_back {c} {t} s b e (a_mark {f = f} m l more) =
    a_mark (record {
      place = length s + m.place;
      column = let q = m.column in omega arith;
      within = let w = m.within in omega (arith, length-append s t);
      no_digit = ap still (drop-append-add s t m.place) ∙ m.no_digit;
      right = m.right;
    }) l (marked_back s b e more)

-- refusals that begin later, and one list after another
marked_later : {c : ℕ} {s : List ℕ} {a b : ℕ} {fs : List TextFault} → a ≤ b → Marked c s b fs → Marked c s a fs
marked_later l no_mark = no_mark
marked_later l (a_mark m k more) = a_mark m (omega arith) more

pub marked_both : {c : ℕ} {s : List ℕ} {a : ℕ} {fs gs : List TextFault} (t : List ℕ) → a ≤ c + length s → Marked c s a fs → Marked (c + length s) t (c + length s) gs
    → Marked c (s ++ t) a (fs ++ gs)
marked_both {c} {s} t l no_mark more = marked_later l (marked_back s c refl more)
marked_both {c} {s} {a} {fs} {gs} t l (a_mark {f = f} {fs = hs} m k front) more =
    let ends : suc (column_of f) ≤ c + length s = let w = m.within in let q = m.column in omega arith in
    joins (marked_front t (a_mark m k no_mark)) k (marked_both t ends front more)
  where
    joins : Marked c (s ++ t) a (f ∷ []) → a ≤ column_of f → Marked c (s ++ t) (suc (column_of f)) (hs ++ gs) → Marked c (s ++ t) a (f ∷ (hs ++ gs))
    joins (a_mark m j none) k rest = a_mark m k rest

-- a number
abbrev fault_kind : TextFault → ℕ
fault_kind (Malformed k) = 0
fault_kind (TooDeep k) = 1
fault_kind (OutOfRange k) = 1
fault_kind (Undeclared k) = 1

module _ (r : Ranges) where
  number_marked : (c : ℕ) (l : Letter) (ds : List ℕ) → Marked c (letter_byte l ∷ ds) c (number_refusals r c l ds)
  number_marked c l ds = by (in_range r l (told 0 ds))
    where
      by : (b : Bool) → Marked c (letter_byte l ∷ ds) c (if b then [] else OutOfRange c ∷ [])
      by true = no_mark
      by false =
          a_mark (record { place = 0; column = omega arith; within = omega arith; no_digit = letter_still l; right = λ k q. absurd (omega (arith, ap fault_kind q)) }) (omega arith) no_mark

  -- a sign and a bracket
  deep_marked : (c : ℕ) (g : Sign) → Marked c (sign_byte g ∷ 40 ∷ []) c (TooDeep c ∷ [])
  deep_marked c g =
      a_mark (record { place = 0; column = omega arith; within = omega arith; no_digit = sign_still g; right = λ k q. absurd (omega (arith, ap fault_kind q)) }) (omega arith) no_mark

  pair_marked : (d c : ℕ) (g : Sign) (a b : Node) (fs : List TextFault) → Marked c (sign_byte g ∷ 40 ∷ []) c fs
      → Marked (c + 2) (spelt a) (c + 2) (node_refusals r d (c + 2) a)
      → Marked (c + 2 + length (spelt a) + 1) (spelt b) (c + 2 + length (spelt a) + 1) (node_refusals r d (c + 2 + length (spelt a) + 1) b)
      → Marked c (spelt (pair g a b)) c (fs ++ (node_refusals r d (c + 2) a ++ node_refusals r d (c + 2 + length (spelt a) + 1) b))
  pair_marked d c g a b fs front ma mb =
      let tail : List ℕ = 44 ∷ (spelt b ++ (41 ∷ [])) in
      let comma : List ℕ = 44 ∷ [] in
      let e : c + 2 + length (spelt a) + length comma ≡ c + 2 + length (spelt a) + 1 = omega arith in
      let last = marked_front (41 ∷ []) mb in
      let behind : Marked (c + 2 + length (spelt a)) tail (c + 2 + length (spelt a)) (node_refusals r d (c + 2 + length (spelt a) + 1) b)
      = marked_later (omega arith) (marked_back comma (c + 2 + length (spelt a)) e last) in
      marked_both (spelt a ++ tail) (omega arith) front (marked_both tail (omega arith) ma behind)

  node_marked : (d c : ℕ) (t : Node) → Marked c (spelt t) c (node_refusals r d c t)
  node_marked d c (leaf l ds) = number_marked c l ds
  node_marked zero c (pair g a b) =
      pair_marked zero c g a b (TooDeep c ∷ []) (deep_marked c g) (node_marked zero (c + 2) a) (node_marked zero (c + 2 + length (spelt a) + 1) b)
  node_marked (suc d) c (pair g a b) =
      pair_marked d c g a b [] no_mark (node_marked d (c + 2) a) (node_marked d (c + 2 + length (spelt a) + 1) b)

  part_marked : (n : Need) (c : ℕ) (p : Part) → Marked c (spelt_part p) c (part_refusals r n c p)
  part_marked n c (mark x) = no_mark
  part_marked n c (sign s) = no_mark
  part_marked n c (numbered l ds) = number_marked c l ds
  part_marked (a_node d) c (node t) = node_marked d c t
  part_marked (a_byte x) c (node t) = no_mark
  part_marked a_sign c (node t) = no_mark
  part_marked (a_letter l) c (node t) = no_mark
  part_marked (a_number l k) c (node t) = no_mark
  part_marked (more_digits l k n) c (node t) = no_mark

  pub line_marked : (ns : List Need) (c : ℕ) (ps : List Part) → Marked c (spelt_parts ps) c (refusals r ns c ps)
  line_marked [] c ps = no_mark
  line_marked (n ∷ ns) c [] = no_mark
  line_marked (n ∷ ns) c (p ∷ ps) = marked_both (spelt_parts ps) (omega arith) (part_marked n c p) (line_marked ns (c + length (spelt_part p)) ps)

-- So the first of them has the smallest column, and each is marked.
pub mark_of : {c : ℕ} {s : List ℕ} {a : ℕ} {fs : List TextFault} → Marked c s a fs → (f : TextFault) → Among f fs → Mark c s f × (a ≤ column_of f)
mark_of no_mark f h = absurd h
mark_of {c} {s} {a} (a_mark {f = g} m l more) f (inl e) = subst (λ (h : TextFault). Mark c s h × (a ≤ column_of h)) e (m, l)
mark_of (a_mark {f = g} m l more) f (inr h) = let (k, j) = mark_of more f h in (k, omega arith)

pub first_least : {c : ℕ} {s : List ℕ} {a : ℕ} {f : TextFault} {fs : List TextFault} → Marked c s a (f ∷ fs) → (g : TextFault) → Among g (f ∷ fs) → (g ≡ f) ⊎ (column_of f < column_of g)
first_least (a_mark m l more) g (inl e) = inl (sym e)
first_least (a_mark m l more) g (inr h) = let (k, j) = mark_of more g h in inr (omega arith)
