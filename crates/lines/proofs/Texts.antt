-- What is read is the text of the call that it says.
use Rattle.std.proofs.Common.{rules, ◌≡◌, ℕ, zero, suc, ◌+◌, ◌-◌, ◌≤◌, ◌<◌, Bool, true, false, cond, ◌&&◌, ◌||◌, if◌then◌else◌, eqb, leb, List, [], ◌∷◌, ◌++◌, length, Some, None, Option, sym, refl, ap, ◌∙◌, subst, arith}
use Rattle.std.specs.Fmt.{decimal}
use Rattle.std.specs.List.{slice_get}
use Rattle.std.proofs.lemmas.Str.Parse.{IsNumeralModel, numerals_by_fold}
use Rattle.std.proofs.lemmas.Fmt.{decimal-digits_value}
use Rattle.std.proofs.lemmas.Bool.{cond-true, cond-false, and_parts, and_from, le-leb, leb-true, lt-ltb, lt-leb, le-ltb, false≢true, eqb-true, eq-eqb}
use Rattle.std.proofs.lemmas.Bool.Decides.{nat_tests}
use Rattle.std.proofs.lemmas.Option.{none-some}
use Rattle.edges.specs.declared.edges.Edge.{Edge}
use Rattle.edges.specs.declared.edges.Change.{Change}
use Rattle.edges.specs.Edges.{edge, edge_of}
use Rattle.lines.specs.declared.fault.TextFault.{TextFault}
use Rattle.lines.specs.declared.fault.TextFault.TheVariants.{OutOfRange}
use Rattle.privileges.specs.Privileges.{alike, declared, place_of, named}
use Rattle.privileges.proofs.Declared.{alike_equal}
use Rattle.privileges.specs.Declaring.{found}
use Rattle.lines.specs.declared.letters.Letter.{Letter}
use Rattle.lines.specs.declared.letters.Letter.TheVariants.{User, Role, Privilege, Vault}
use Rattle.lines.specs.declared.signs.Sign.{Sign}
use Rattle.lines.specs.declared.signs.Sign.TheVariants.{Plus, Minus}
use Rattle.lines.specs.Spelling.{sign_in, most, first_vertex, is_digit, all_digits, told, is_numeral, signed, Node, leaf, pair, spelt}
use Rattle.lines.specs.Reading.{asked}
use Rattle.lines.specs.Lines.{is_node_letter, well_formed, number_refusals, node_refusals}
use Rattle.lines.specs.Ends.{joined, named_by}
use Rattle.lines.specs.Writing.{leaf_of, node_of}

-- Numbers

pub own : IsNumeralModel (λ ds. all_digits ds ≡ true) (told 0)
own = numerals_by_fold _ (search rules) told (search rules)

-- a numeral is the text of its number
pub numeral_of : (ds : List ℕ) → is_numeral ds ≡ true → told 0 ds ≤ 127 → decimal (told 0 ds) ≡ ds
numeral_of [] h l = absurd (false≢true h)
numeral_of (x ∷ ds) h l = by (eqb x 48) refl h
  where
    alone : (ds : List ℕ) → eqb (length ds) 0 ≡ true → length (x ∷ ds) ≡ 1
    alone ds e = let z = eqb-true (length ds) 0 e in omega arith

    by : (b : Bool) → eqb x 48 ≡ b → (if b then (eqb (length ds) 0) else (is_digit x && all_digits ds)) ≡ true → decimal (told 0 (x ∷ ds)) ≡ x ∷ ds
    by true e d =
        let is = eqb-true x 48 e in
        let first : is_digit x ≡ true = grind (arith, nat_tests) in
        let one = alone ds d in
        decimal-digits_value own (x ∷ ds) (and_from _ _ first (none ds (omega arith))) (omega arith) (λ z. one) (omega arith)
      where
        none : (ds : List ℕ) → length ds ≡ 0 → all_digits ds ≡ true
        none [] z = refl
        none (y ∷ ds) z = absurd (omega arith)
    by false e d =
        let no : x ≡ 48 → ⊥ = λ z. false≢true (sym e ∙ eq-eqb x 48 z) in
        decimal-digits_value own (x ∷ ds) d (omega arith) (λ z. absurd (no z)) (omega arith)

-- Privileges

-- what is found under a number is named by it
found_named : (D : List Change) (c : Change) (v : ℕ) → found D c ≡ Some v → named D v ≡ Some c
found_named D c v h = by (declared D c) refl h
  where
    placed : (D : List Change) → declared D c ≡ true → slice_get D (place_of D c) ≡ Some c
    placed [] e = absurd (false≢true e)
    placed (d ∷ D) e = at (alike d c) refl e (placed D)
      where
        at : (b : Bool) → alike d c ≡ b → (b || declared D c) ≡ true → (declared D c ≡ true → slice_get D (place_of D c) ≡ Some c) → slice_get (d ∷ D) (cond b 0 (suc (place_of D c))) ≡ Some c
        at true q e ih = ap Some (alike_equal d c q)
        at false q e ih = ih e

    by : (b : Bool) → declared D c ≡ b → (if b then Some (256 + place_of D c) else None) ≡ Some v → named D v ≡ Some c
    by false e q = absurd (none-some v q)
    by true e q =
        let is : 256 + place_of D c ≡ v = cc in
        let back : v - 256 ≡ place_of D c = omega arith in
        cond-true _ _ _ (le-leb 256 v (omega arith)) ∙ ap (slice_get D) back ∙ placed D e

pub unnamed : (D : List Change) (v : ℕ) → v < 256 → named D v ≡ None
unnamed D v l = cond-false _ _ _ (lt-leb 256 v l)

-- Nodes

-- a letter and a number in range are the leaf of their vertex
leaf_is : (l : Letter) (n : ℕ) → is_node_letter l ≡ true → n ≤ most l → (first_vertex l + n < 256) × (leaf_of (first_vertex l + n) ≡ leaf l (decimal n))
leaf_is User n i h = (omega arith, cond-true _ _ _ (lt-ltb (0 + n) 64 (omega arith)) ∙ ap (λ (k : ℕ). leaf User (decimal k)) (omega arith))
leaf_is Role n i h =
    (omega arith, cond-false _ _ _ (le-ltb (64 + n) 64 (omega arith)) ∙ cond-true _ _ _ (lt-ltb (64 + n) 128 (omega arith)) ∙ ap (λ (k : ℕ). leaf Role (decimal k)) (omega arith))
leaf_is Privilege n i h =
    (omega arith, cond-false _ _ _ (le-ltb (128 + n) 64 (omega arith)) ∙ cond-false _ _ _ (le-ltb (128 + n) 128 (omega arith)) ∙ ap (λ (k : ℕ). leaf Privilege (decimal k)) (omega arith))
leaf_is Vault n i h = absurd (false≢true i)

pub low_node : (D : List Change) (d v : ℕ) → v < 256 → node_of D d v ≡ leaf_of v
low_node D zero v l = refl
low_node D (suc d) v l =
    ap (λ (o : Option Change). elim o [ None ↦ leaf_of v | Some c ↦ pair (sign_in c) (node_of D d (edge_of c).from) (node_of D d (edge_of c).to) ]) (unnamed D v l)

pub in_bounds : (c : ℕ) (l : Letter) (ds : List ℕ) → number_refusals asked c l ds ≡ [] → told 0 ds ≤ most l
in_bounds c l ds h = by (leb (told 0 ds) (most l)) refl h
  where
    by : (b : Bool) → leb (told 0 ds) (most l) ≡ b → (if b then [] else OutOfRange c ∷ []) ≡ [] → told 0 ds ≤ most l
    by true e q = leb-true (told 0 ds) (most l) e
    by false e q = absurd (omega (arith, ap length q))

pub both_none : (xs ys : List TextFault) → xs ++ ys ≡ [] → (xs ≡ []) × (ys ≡ [])
both_none [] ys h = (refl, h)
both_none (x ∷ xs) ys h = absurd (omega (arith, ap length h))

pub low_most : (l : Letter) → most l ≤ 127
low_most User = omega arith
low_most Role = omega arith
low_most Privilege = omega arith
low_most Vault = omega arith

named_leaf : (l : Letter) (ds : List ℕ) → is_numeral ds ≡ true → told 0 ds ≤ most l → leaf l (decimal (told 0 ds)) ≡ leaf l ds
named_leaf l ds h k = ap (leaf l) (numeral_of ds h (let m = low_most l in omega arith))

pub signed_in : (g : Sign) (e : Edge) → sign_in (signed g e) ≡ g
signed_in Plus e = refl
signed_in Minus e = refl

pub signed_edge : (g : Sign) (e : Edge) → edge_of (signed g e) ≡ e
signed_edge Plus e = refl
signed_edge Minus e = refl

-- a node with nothing to refuse is that of the vertex that it names
pub node_is : (D : List Change) (t : Node) (d k c v : ℕ) → well_formed t ≡ true → node_refusals asked d c t ≡ [] → named_by D t ≡ Some v → d ≤ k → node_of D k v ≡ t
node_is D (leaf l ds) d k c v w r n le =
    let (i, is) = and_parts (is_node_letter l) (is_numeral ds) w in
    let bound = in_bounds c l ds r in
    let (low, made) = leaf_is l (told 0 ds) i bound in
    let same : first_vertex l + told 0 ds ≡ v = cc in
    subst (λ (u : ℕ). node_of D k u ≡ leaf l ds) same (low_node D k (first_vertex l + told 0 ds) low ∙ made ∙ named_leaf l ds is bound)
node_is D (pair g a b) zero k c v w r n le = absurd (omega (arith, ap length r))
node_is D (pair g a b) (suc d) zero c v w r n le = absurd (omega arith)
node_is D (pair g a b) (suc d) (suc k) c v w r n le = by (named_by D a) refl (named_by D b) refl n (λ x. node_is D a d k (c + 2) x wa ra) (λ y. node_is D b d k (c + 2 + length (spelt a) + 1) y wb rb)
  where
    wa : well_formed a ≡ true
    wa = (and_parts (well_formed a) (well_formed b) w).0

    wb : well_formed b ≡ true
    wb = (and_parts (well_formed a) (well_formed b) w).1

    ra : node_refusals asked d (c + 2) a ≡ []
    ra = (both_none (node_refusals asked d (c + 2) a) (node_refusals asked d (c + 2 + length (spelt a) + 1) b) r).0

    rb : node_refusals asked d (c + 2 + length (spelt a) + 1) b ≡ []
    rb = (both_none (node_refusals asked d (c + 2) a) (node_refusals asked d (c + 2 + length (spelt a) + 1) b) r).1

    by : (o : Option ℕ) → named_by D a ≡ o → (p : Option ℕ) → named_by D b ≡ p → joined D g o p ≡ Some v
        → ((x : ℕ) → named_by D a ≡ Some x → d ≤ k → node_of D k x ≡ a) → ((y : ℕ) → named_by D b ≡ Some y → d ≤ k → node_of D k y ≡ b)
        → node_of D (suc k) v ≡ pair g a b
    by None e p q h ia ib = absurd (none-some v h)
    by (Some x) e None q h ia ib = absurd (none-some v h)
    by (Some x) e (Some y) q h ia ib =
        let c : Change = signed g (edge x y) in
        let le : d ≤ k = omega arith in
        ap (λ (o : Option Change). elim o [ None ↦ leaf_of v | Some c ↦ pair (sign_in c) (node_of D k (edge_of c).from) (node_of D k (edge_of c).to) ]) (found_named D c v h)
        ∙ ap (λ (e : Edge). pair (sign_in c) (node_of D k e.from) (node_of D k e.to)) (signed_edge g (edge x y))
        ∙ ap (λ (s : Sign). pair s (node_of D k x) (node_of D k y)) (signed_in g (edge x y))
        ∙ ap (λ (t : Node). pair g t (node_of D k y)) (ia x e le) ∙ ap (pair g a) (ib y q le)
