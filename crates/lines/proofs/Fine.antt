-- The text of a command is accepted.
use Rattle.std.proofs.Common.{◌≡◌, ℕ, zero, suc, ◌+◌, ◌-◌, ◌*◌, ◌≤◌, ◌<◌, ◌⊎◌, inl, inr, Bool, true, false, ◌&&◌, ◌||◌, if◌then◌else◌, eqb, List, [], ◌∷◌, ◌++◌, length, take, Some, None, Option, get_or, sym, refl, ap, ◌∙◌, subst, arith, length-append}
use Rattle.std.specs.Fmt.{decimal}
use Rattle.std.specs.List.{slice_get}
use Rattle.std.proofs.lemmas.Fmt.{digits_decimal, digits_value-decimal, decimal_nonempty, first_decimal, length-decimal-le}
use Rattle.std.proofs.lemmas.Bool.{cond-true, cond-false, and_from, le-leb, lt-ltb, le-ltb, cases_lt, ne_eqb}
use Rattle.edges.specs.declared.edges.Edge.{Edge}
use Rattle.edges.specs.declared.edges.Change.{Change}
use Rattle.edges.specs.declared.edges.Change.TheVariants.{Add, Remove}
use Rattle.edges.specs.Edges.{edge_of}
use Rattle.lines.specs.declared.fault.TextFault.{TextFault}
use Rattle.privileges.specs.Privileges.{Proper, assigns, inherits, permits, administers, Depth, alike, declared, named}
use Rattle.privileges.proofs.Declared.{named_names, names_named, inner_depth, some_equal, some_none, alike_refl, depth_positive}
use Rattle.privileges.specs.Declaring.{IsOrdered, found}
use Rattle.lines.specs.declared.letters.Letter.{Letter}
use Rattle.lines.specs.declared.letters.Letter.TheVariants.{User, Role, Privilege}
use Rattle.lines.specs.Spelling.{sign_in, most, first_vertex, is_digit, all_digits, told, is_numeral, signed, Node, leaf, pair, spelt}
use Rattle.lines.specs.Reading.{asked}
use Rattle.lines.specs.Lines.{is_node_letter, well_formed, number_refusals, node_refusals}
use Rattle.lines.specs.Ends.{joined, named_by}
use Rattle.lines.specs.Writing.{leaf_of, node_of}
use Rattle.lines.proofs.Texts.{own, low_node}

-- Numbers

pub decimal_numeral : (n : ℕ) → n ≤ 127 → is_numeral (decimal n) ≡ true
decimal_numeral zero h = one (decimal 0) (decimal_nonempty 0 (omega arith)) (length-decimal-le 1 0 (omega arith) (omega arith) (omega arith)) (digits_decimal own 0 (omega arith))
  where
    one : (ds : List ℕ) → 0 < length ds → length ds ≤ 1 → all_digits ds ≡ true → is_numeral ds ≡ true
    one [] l m d = absurd (omega arith)
    one (x ∷ y ∷ ds) l m d = absurd (omega arith)
    one (x ∷ []) l m d = by (eqb x 48) d
      where
        by : (b : Bool) → (is_digit x && true) ≡ true → (if b then (eqb (length {A = ℕ} []) 0) else (is_digit x && true)) ≡ true
        by true d = refl
        by false d = d
decimal_numeral (suc n) h =
    by (decimal (suc n)) (decimal_nonempty (suc n) (omega arith)) (first_decimal (suc n) (omega arith) (omega arith)) (digits_decimal own (suc n) (omega arith))
  where
    by : (ds : List ℕ) → 0 < length ds → 48 < get_or ds 0 0 → all_digits ds ≡ true → is_numeral ds ≡ true
    by [] l f d = absurd (omega arith)
    by (x ∷ ds) l f d = cond-false _ _ _ (ne_eqb x 48 (λ e. omega arith)) ∙ d

pub decimal_told : (n : ℕ) → n ≤ 127 → told 0 (decimal n) ≡ n
decimal_told n h = digits_value-decimal own n (omega arith)

pub decimal_short : (n : ℕ) → n ≤ 127 → length (decimal n) ≤ 3
decimal_short n h = length-decimal-le 3 n (omega arith) (omega arith) (omega arith)

-- Nodes

-- what a node of a vertex is like: well formed and with nothing to refuse at depth k, naming the vertex, and short
pub record Fine (D : List Change) (k v : ℕ) (t : Node) : Type 0 where
  pub form : well_formed t ≡ true
  pub names : named_by D t ≡ Some v
  pub clean : (c : ℕ) → node_refusals asked k c t ≡ []
  pub short : length (spelt t) ≤ 8 * k + 4

pub no_number : (c : ℕ) (l : Letter) (ds : List ℕ) → told 0 ds ≤ most l → number_refusals asked c l ds ≡ []
no_number c l ds h = cond-true _ _ _ (le-leb (told 0 ds) (most l) h)

fine_leaf : (D : List Change) (k : ℕ) (l : Letter) (n : ℕ) → is_node_letter l ≡ true → n ≤ most l → n ≤ 127 → Fine D k (first_vertex l + n) (leaf l (decimal n))
fine_leaf D k l n i h m =
    record {
      form = and_from _ _ i (decimal_numeral n m);
      names = ap (λ (x : ℕ). Some (first_vertex l + x)) (decimal_told n m);
      clean = λ c. no_number c l (decimal n) (let e = decimal_told n m in omega arith);
      short = let s = decimal_short n m in omega arith;
    }

pub fine_low : (D : List Change) (k v : ℕ) → v < 256 → Fine D k v (leaf_of v)
fine_low D k v h = by (cases_lt v 64) (cases_lt v 128)
  where
    at_vertex : (l : Letter) (u n : ℕ) → first_vertex l + n ≡ u → (t : Node) → leaf l (decimal n) ≡ t → is_node_letter l ≡ true → n ≤ most l → n ≤ 127 → Fine D k u t
    at_vertex l u n e t q i a b = subst (Fine D k u) q (subst (λ (x : ℕ). Fine D k x (leaf l (decimal n))) e (fine_leaf D k l n i a b))

    by : (v < 64) ⊎ (64 ≤ v) → (v < 128) ⊎ (128 ≤ v) → Fine D k v (leaf_of v)
    by (inl a) b = at_vertex User v v (omega arith) (leaf_of v) (sym (cond-true _ _ _ (lt-ltb v 64 a))) refl (omega arith) (omega arith)
    by (inr a) (inl b) =
        at_vertex Role v (v - 64) (omega arith) (leaf_of v) (sym (cond-false _ _ _ (le-ltb v 64 a) ∙ cond-true _ _ _ (lt-ltb v 128 b))) refl (omega arith) (omega arith)
    by (inr a) (inr b) =
        at_vertex Privilege v (v - 128) (omega arith) (leaf_of v) (sym (cond-false _ _ _ (le-ltb v 64 a) ∙ cond-false _ _ _ (le-ltb v 128 b))) refl (omega arith) (omega arith)

-- Privileges in order

-- what is declared has its number, and is found by it
named_found : (D : List Change) → IsOrdered D → (v : ℕ) (c : Change) → named D v ≡ Some c → found D c ≡ Some v
named_found D o v c h =
    let (i, e, q) = named_names D v c h in
    let place = o.once i c q in
    cond-true _ _ _ (is_declared D i q) ∙ ap Some (omega arith)
  where
    is_declared : (D : List Change) (i : ℕ) → slice_get D i ≡ Some c → declared D c ≡ true
    is_declared [] i q = absurd (some_none q)
    is_declared (d ∷ D) zero q = ap (λ (b : Bool). b || declared D c) (subst (λ (x : Change). alike d x ≡ true) (some_equal q) (alike_refl d))
    is_declared (d ∷ D) (suc i) q = by (alike d c) (is_declared D i q)
      where
        by : (b : Bool) → declared D c ≡ true → (b || declared D c) ≡ true
        by true h = refl
        by false h = h

-- an edge of earlier privileges is one of all
take_get : (D : List Change) (n i : ℕ) (c : Change) → slice_get (take n D) i ≡ Some c → slice_get D i ≡ Some c
take_get D zero i c q = absurd (some_none q)
take_get [] (suc n) i c q = absurd (some_none q)
take_get (d ∷ D) (suc n) zero c q = q
take_get (d ∷ D) (suc n) (suc i) c q = take_get D n i c q

proper_all : (D : List Change) (n : ℕ) (e : Edge) → Proper (take n D) e → Proper D e
proper_all D n e (assigns a b) = assigns a b
proper_all D n e (inherits a b) = inherits a b
proper_all D n e (permits a b) = permits a b
proper_all D n e (administers {c = c} a (i, q, g)) = administers a (i, q, take_get D n i c g)

-- the vertices whose nodes go k levels deep at most
pub data Level (D : List Change) (k v : ℕ) : Type 0 where
  low : v < 256 → Level D k v
  high : (c : Change) → named D v ≡ Some c → (j : ℕ) → Depth D c j → j ≤ k → Level D k v

pub signed_whole : (c : Change) → signed (sign_in c) (edge_of c) ≡ c
signed_whole (Add e) = refl
signed_whole (Remove e) = refl

-- the ends of a proper edge: its first is a user or a role
pub first_low : (D : List Change) (e : Edge) → Proper D e → e.from < 128
first_low D e (assigns a b) = omega arith
first_low D e (inherits a b) = let m = a.1 in omega arith
first_low D e (permits a b) = let m = a.1 in omega arith
first_low D e (administers a n) = let m = a.1 in omega arith

-- the edge that a declared privilege is about, with its inner privilege one level less deep
inner_level : (D : List Change) (k : ℕ) (c : Change) (j : ℕ) → Proper D (edge_of c) → Depth D c j → j ≤ suc k → Level D k (edge_of c).to
inner_level D k c j p d le = by (cases_lt (edge_of c).to 256) p
  where
    by : ((edge_of c).to < 256) ⊎ (256 ≤ (edge_of c).to) → Proper D (edge_of c) → Level D k (edge_of c).to
    by (inl l) q = low l
    by (inr l) (assigns a b) = absurd (omega arith)
    by (inr l) (inherits a b) = absurd (omega arith)
    by (inr l) (permits a b) = absurd (omega arith)
    by (inr l) (administers {c = x} a n) =
        let (i, e, m) = inner_depth d n in
        high x (names_named D (edge_of c).to x n) i e (omega arith)

-- a declared privilege is about a proper edge, and at most 8 deep
declared_proper : (D : List Change) → IsOrdered D → (v : ℕ) (c : Change) → named D v ≡ Some c → Proper D (edge_of c)
declared_proper D o v c h = let (i, e, q) = named_names D v c h in proper_all D i (edge_of c) (o.inner_first i c q)

-- the node of a declared privilege
fine_pair : (D : List Change) (k v : ℕ) (c : Change) (a b : Node) → found D c ≡ Some v → Fine D k (edge_of c).from a → Fine D k (edge_of c).to b → length (spelt a) ≤ 4
    → Fine D (suc k) v (pair (sign_in c) a b)
fine_pair D k v c a b f fa fb s =
    record {
      form = and_from _ _ fa.form fb.form;
      names =
          ap (λ (o : Option ℕ). joined D (sign_in c) o (named_by D b)) fa.names ∙ ap (joined D (sign_in c) (Some (edge_of c).from)) fb.names
          ∙ ap (found D) (signed_whole c) ∙ f;
      clean = λ i.
          ap (λ (fs : List TextFault). fs ++ node_refusals asked k (i + 2 + length (spelt a) + 1) b) (fa.clean (i + 2)) ∙ fb.clean (i + 2 + length (spelt a) + 1);
      short = let t = fb.short in omega (arith, length-append (spelt a) (44 ∷ (spelt b ++ (41 ∷ []))), length-append (spelt b) (41 ∷ []));
    }

pub fine_node : (D : List Change) → IsOrdered D → (k v : ℕ) → Level D k v → Fine D k v (node_of D k v)
fine_node D o k v (low l) = subst (Fine D k v) (sym (low_node D k v l)) (fine_low D k v l)
fine_node D o zero v (high c h j d le) = let p = depth_positive d in absurd (omega arith)
fine_node D o (suc k) v (high c h j d le) =
    let p = declared_proper D o v c h in
    let from : (edge_of c).from < 256 = let f = first_low D (edge_of c) p in omega arith in
    let left = fine_node D o k (edge_of c).from (low from) in
    let right = fine_node D o k (edge_of c).to (inner_level D k c j p d le) in
    let short : length (spelt (node_of D k (edge_of c).from)) ≤ 4 =
    subst (λ (t : Node). length (spelt t) ≤ 4) (sym (low_node D k (edge_of c).from from)) (let s = (fine_low D 0 (edge_of c).from from).short in omega arith) in
    subst (Fine D (suc k) v)
    (sym (ap (λ (x : Option Change). elim x [ None ↦ leaf_of v | Some c ↦ pair (sign_in c) (node_of D k (edge_of c).from) (node_of D k (edge_of c).to) ]) h))
    (fine_pair D k v c (node_of D k (edge_of c).from) (node_of D k (edge_of c).to) (named_found D o v c h) left right short)
