-- Whole lines: refused, or said.
use Rattle.std.proofs.Common.{◌≡◌, ℕ, ◌+◌, ◌≤◌, ◌<◌, inl, inr, Bool, true, false, if◌then◌else◌, eqb, List, [], ◌∷◌, ◌++◌, length, take, Some, None, Ok, Err, Option, Result, sym, refl, ap, ◌∙◌, subst, arith}
use Rattle.std.specs.Prelude.{MatchResult}
use Rattle.std.proofs.lemmas.Bool.{cond-false, lt-leb}
use Rattle.std.proofs.lemmas.List.{take_all, length-take-le, append-nil}
use Rattle.std.proofs.lemmas.Option.{none-some}
use Rattle.edges.specs.declared.edges.Change.{Change}
use Rattle.edges.specs.declared.edges.Edge.{Edge}
use Rattle.lines.specs.declared.fault.TextFault.{TextFault}
use Rattle.lines.specs.declared.fault.TextFault.TheVariants.{Malformed, Undeclared}
use Rattle.calls.specs.declared.call.Call as call
use Rattle.calls.specs.declared.call.Call.{Call}
use Rattle.lines.specs.declared.letters.Letter.TheVariants.{User, Vault}
use Rattle.lines.specs.declared.signs.Sign.{Sign}
use Rattle.lines.specs.declared.cursor.Cursor.{Cursor}
use Rattle.lines.specs.declared.ends.Named.{Named}
use Rattle.lines.specs.declared.ends.Ends.{Ends}
use Rattle.lines.specs.declared.draft.Draft.{Draft}
use Rattle.lines.specs.declared.draft.Draft.TheVariants.{Declare, Keep, Seat, Open, Command, Deliver}
use Rattle.lines.specs.Spelling.{first_vertex, signed, told, Node, leaf, pair, spelt, Part, mark, sign, numbered, node, spelt_parts}
use Rattle.lines.specs.Reading.{Need, asked, reading}
use Rattle.lines.specs.Lines.{refusals}
use Rattle.lines.specs.Ends.{joined, Missing, FirstMissing, named_by}
use Rattle.lines.specs.Cursors.{Fails}
use Rattle.lines.specs.Forms.{command_form, form_by, form_of, too_long, judged, missing, node_undeclared, undeclared, Whole, Refused, Accepted, NamedBoth, Says, declares, keeps, seats, opens, commands, delivers, Said}
use Rattle.lines.specs.Drafts.{PartsRead, Of, OfBoth, Drafted, DraftRead, Vertices, Completes, Misses, NotEnded, Completed}
use Rattle.lines.proofs.Forwards.{first_of, plain, line_at}

-- The forms

pub by_first : (x : ℕ) (P : List Need → Type 0) → P (form_by 68) → P (form_by 75) → P (form_by 83) → P (form_by 79) → P (form_by 84) → P (form_by 0) → P (form_by x)
by_first x P d k s o t c = by (eqb x 68) (eqb x 75) (eqb x 83) (eqb x 79) (eqb x 84)
  where
    by : (b1 b2 b3 b4 b5 : Bool)
        → P (if b1 then form_by 68 else if b2 then form_by 75 else if b3 then form_by 83 else if b4 then form_by 79 else if b5 then form_by 84 else form_by 0)
    by true b2 b3 b4 b5 = d
    by false true b3 b4 b5 = k
    by false false true b4 b5 = s
    by false false false true b5 = o
    by false false false false true = t
    by false false false false false = c

pub form_plain : (s : List ℕ) → plain (form_of s) ≡ true
form_plain [] = refl
form_plain (x ∷ s) = by_first x (λ ns. plain ns ≡ true) refl refl refl refl refl refl

pub form_front : (s : List ℕ) → form_of (take 128 s) ≡ form_of s
form_front [] = refl
form_front (x ∷ s) = refl

-- Refused while it is read

module _ (s : List ℕ) (t : Cursor) (text : t.text.now ≡ take 128 s) (start : t.column ≡ 0) (ns : List Need) where
  from_start : (st : List Need) → reading asked (ns ++ st) t.column t.text.now ≡ reading asked (ns ++ st) 0 (take 128 s)
  from_start st = ap (λ (c : ℕ). reading asked (ns ++ st) c t.text.now) start ∙ ap (reading asked (ns ++ st) 0) text

  by_itself : reading asked (ns ++ []) 0 (take 128 s) ≡ reading asked ns 0 (take 128 s)
  by_itself = ap (λ (os : List Need). reading asked os 0 (take 128 s)) (append-nil ns)

  judge : (o : Option TextFault) → reading asked ns 0 (take 128 s) ≡ o → judged ns s ≡ elim o [ Some f ↦ Some f | None ↦ too_long s ]
  judge o e = ap (λ (o : Option TextFault). elim o [ Some f ↦ Some f | None ↦ too_long s ]) e

  pub not_read : (D : List Change) (f : TextFault) → Fails ns t f → Refused D ns s f
  not_read D f h = inl (judge (Some f) (sym by_itself ∙ sym (from_start []) ∙ h []))

  module _ (r : Cursor) (ps : List Part) (p : PartsRead ns t r ps) where
    ended : reading asked ns 0 (take 128 s) ≡ reading asked [] r.column r.text.now
    ended = sym by_itself ∙ sym (from_start []) ∙ p.passes.goes []

    pub not_ended : (D : List Change) (f : TextFault) → NotEnded s r f → Refused D ns s f
    not_ended D f h = by r.text.now refl
      where
        by : (u : List ℕ) → r.text.now ≡ u → Refused D ns s f
        by (x ∷ u) e = inl (judge (Some (Malformed r.column)) (ended ∙ ap (reading asked [] r.column) e) ∙ ap Some (sym h.0))
        by [] e =
            let long : 128 < length s = h.1 e in
            let q = p.passes.ends in
            let col : r.column ≡ 128 = omega (arith, ap length e, ap length text, length-take-le 128 s (omega arith)) in
            inl (judge None (ended ∙ ap (reading asked [] r.column) e) ∙ cond-false _ _ _ (lt-leb (length s) 128 long)
            ∙ ap (λ (c : ℕ). Some (Malformed c)) (sym col) ∙ ap Some (sym h.0))

    pub whole_read : plain ns ≡ true → r.text.now ≡ [] → length s ≤ 128 → Whole ns s ps
    whole_read h e l =
        let same : s ≡ spelt_parts ps = sym (take_all 128 s l) ∙ sym text ∙ p.text ∙ ap (λ (u : List ℕ). spelt_parts ps ++ u) e ∙ append-nil (spelt_parts ps) in
        record {
          line = p.line;
          text = same;
          clean = none (refusals asked ns 0 ps) (sym (line_at asked p.line h 0) ∙ ap (reading asked ns 0) (sym same) ∙ ap (reading asked ns 0) (sym (take_all 128 s l)) ∙ ended ∙ ap (reading asked [] r.column) e);
          short = l;
        }
      where
        none : (fs : List TextFault) → first_of fs None ≡ None → fs ≡ []
        none [] q = refl
        none (f ∷ fs) q = absurd (none-some f (sym q))

-- Declared or not

-- a bracket that is declared has declared nodes in it
inside : (D : List Change) (g : Sign) (a b : Option ℕ) (v : ℕ) → joined D g a b ≡ Some v → ((x : ℕ) × (a ≡ Some x)) × ((y : ℕ) × (b ≡ Some y))
inside D g None b v h = absurd (none-some v h)
inside D g (Some x) None v h = absurd (none-some v h)
inside D g (Some x) (Some y) v h = ((x, refl), (y, refl))

pub known : (D : List Change) (t : Node) (c v : ℕ) → named_by D t ≡ Some v → node_undeclared D c t ≡ []
known D (leaf l ds) c v h = refl
known D (pair g a b) c v h =
    let (p, q) = inside D g (named_by D a) (named_by D b) v h in
    ap (λ (o : Option ℕ). missing o c ++ (node_undeclared D (c + 2) a ++ node_undeclared D (c + 2 + length (spelt a) + 1) b)) h
    ∙ ap (λ (u : List ℕ). u ++ node_undeclared D (c + 2 + length (spelt a) + 1) b) (known D a (c + 2) p.0 p.1)
    ∙ known D b (c + 2 + length (spelt a) + 1) q.0 q.1

unknown : (D : List Change) (t : Node) (c : ℕ) → named_by D t ≡ None → (cs : List ℕ) × (node_undeclared D c t ≡ c ∷ cs)
unknown D (leaf l ds) c h = absurd (none-some (first_vertex l + told 0 ds) (sym h))
unknown D (pair g a b) c h =
    let inner : List ℕ = node_undeclared D (c + 2) a ++ node_undeclared D (c + 2 + length (spelt a) + 1) b in
    (inner, ap (λ (o : Option ℕ). missing o c ++ inner) h)

-- two nodes at columns k and after it, and the byte between them
abbrev both : List Change → Node → Node → ℕ → List ℕ
both D a b k = node_undeclared D k a ++ node_undeclared D (k + length (spelt a) + 1) b

two_at : (D : List Change) (a b : Node) (k i j : ℕ) → i ≡ k → j ≡ i + length (spelt a) + 1 → node_undeclared D i a ++ (node_undeclared D j b ++ []) ≡ both D a b k
two_at D a b k i j e q =
    ap (λ (u : List ℕ). node_undeclared D i a ++ u) (append-nil (node_undeclared D j b) ∙ ap (λ (n : ℕ). node_undeclared D n b) q)
    ∙ ap (λ (n : ℕ). both D a b n) e

-- A draft's privileges, found or missed

both_known : (D : List Change) (a b : Node) (k : ℕ) (e : Ends) (x : Edge) → OfBoth D a b k e → Vertices e x → both D a b k ≡ []
both_known D a b k e x ((p, i), (q, j)) (v, w) =
    ap (λ (u : List ℕ). u ++ node_undeclared D (k + length (spelt a) + 1) b) (known D a k x.from (sym p ∙ v)) ∙ known D b (k + length (spelt a) + 1) x.to (sym q ∙ w)

both_named : (D : List Change) (a b : Node) (k : ℕ) (e : Ends) (x : Edge) → OfBoth D a b k e → Vertices e x → NamedBoth D a b x.from x.to
both_named D a b k e x ((p, i), (q, j)) (v, w) = record { from = sym p ∙ v; to = sym q ∙ w }

-- the first column of some, and the refusal there
abbrev First : List ℕ → TextFault → Type 0
First cs f = (c : ℕ) × (ds : List ℕ) × (cs ≡ c ∷ ds) × (f ≡ Undeclared c)

one_missing : (D : List Change) (t : Node) (k : ℕ) (n : Named) (f : TextFault) → Of D t k n → Missing n f → First (node_undeclared D k t) f
one_missing D t k n f (p, i) (v, e) =
    let u = unknown D t k (sym p ∙ v) in
    (k, u.0, u.1, e ∙ ap (λ (c : ℕ). Undeclared c) i)

more_behind : (cs ds : List ℕ) (f : TextFault) → First cs f → First (cs ++ ds) f
more_behind cs ds f (c, es, e, q) = (c, es ++ ds, ap (λ (u : List ℕ). u ++ ds) e, q)

both_missing : (D : List Change) (a b : Node) (k : ℕ) (e : Ends) (f : TextFault) → OfBoth D a b k e → FirstMissing e.from e.to f → First (both D a b k) f
both_missing D a b k e f (p, q) (inl m) = more_behind (node_undeclared D k a) (node_undeclared D (k + length (spelt a) + 1) b) f (one_missing D a k e.from f p m)
both_missing D a b k e f ((p, i), q) (inr (v, h, m)) =
    subst (λ (u : List ℕ). First (u ++ node_undeclared D (k + length (spelt a) + 1) b) f) (sym (known D a k v (sym p ∙ h))) (one_missing D b (k + length (spelt a) + 1) e.to f q m)

-- where the nodes of each form stand
seat_nodes : (D : List Change) (a b : Node) → undeclared D 0 (mark 83 ∷ mark 32 ∷ node a ∷ mark 32 ∷ node b ∷ []) ≡ both D a b (0 + 2)
seat_nodes D a b = two_at D a b (0 + 2) 2 (2 + length (spelt a) + 1) refl refl

declare_nodes : (D : List Change) (g : Sign) (a b : Node) → undeclared D 0 (mark 68 ∷ mark 32 ∷ sign g ∷ mark 40 ∷ node a ∷ mark 44 ∷ node b ∷ mark 41 ∷ []) ≡ both D a b (0 + 4)
declare_nodes D g a b = two_at D a b (0 + 4) 4 (4 + length (spelt a) + 1) refl refl

command_nodes : (D : List Change) (ds : List ℕ) (g : Sign) (a b : Node)
    → undeclared D 0 (numbered User ds ∷ mark 32 ∷ sign g ∷ mark 32 ∷ node a ∷ mark 32 ∷ node b ∷ []) ≡ both D a b (0 + length ds + 4)
command_nodes D ds g a b =
    let i : ℕ = 0 + length (spelt (leaf User ds)) + 1 + 1 + 1 in
    let e : i ≡ 0 + length ds + 4 = omega arith in
    two_at D a b (0 + length ds + 4) i (i + length (spelt a) + 1) e refl

keep_node : (D : List Change) (a : Node) (ds : List ℕ) → undeclared D 0 (mark 75 ∷ mark 32 ∷ node a ∷ mark 32 ∷ numbered Vault ds ∷ []) ≡ node_undeclared D (0 + 2) a
keep_node D a ds = append-nil (node_undeclared D 2 a)

accepted : {D : List Change} {ns : List Need} {s : List ℕ} {ps : List Part} → Whole ns s ps → undeclared D 0 ps ≡ [] → Accepted D ns s ps
accepted w e = record { whole = w; declared = e }

-- what a draft completes to is said by its line
said_of : (D : List Change) (ns : List Need) (s : List ℕ) (ps : List Part) (d : Draft) (c : Call) → Whole ns s ps → Drafted D 0 ps d → Completes d c → (undeclared D 0 ps ≡ []) × Says D ps c
said_of D ns s ps (Declare g e) c w (a, b, is, o) (x, v, q) =
    subst (λ (us : List Part). (undeclared D 0 us ≡ []) × Says D us c) (sym is)
    (declare_nodes D g a b ∙ both_known D a b (0 + 4) e x o v, subst (Says D _) (sym q) (declares (both_named D a b (0 + 4) e x o v)))
said_of D ns s ps (Keep n v) c w (a, ds, is, (p, i), u) (x, h, q) =
    subst (λ (us : List Part). (undeclared D 0 us ≡ []) × Says D us c) (sym is)
    (keep_node D a ds ∙ known D a (0 + 2) x (sym p ∙ h), subst (Says D _) (sym (q ∙ ap (λ (n : ℕ). call.TheVariants.Keep n x) u)) (keeps (sym p ∙ h)))
said_of D ns s ps (Seat e) c w (a, b, is, o) (x, v, q) =
    subst (λ (us : List Part). (undeclared D 0 us ≡ []) × Says D us c) (sym is)
    (seat_nodes D a b ∙ both_known D a b (0 + 2) e x o v, subst (Says D _) (sym q) (seats (both_named D a b (0 + 2) e x o v)))
said_of D ns s ps Open c w is q = subst (λ (us : List Part). (undeclared D 0 us ≡ []) × Says D us c) (sym is) (refl, subst (Says D _) (sym q) opens)
said_of D ns s ps (Command u g e) c w (ds, a, b, is, n, o) (x, v, q) =
    subst (λ (us : List Part). (undeclared D 0 us ≡ []) × Says D us c) (sym is) (
      command_nodes D ds g a b ∙ both_known D a b (0 + length ds + 4) e x o v,
      subst (Says D _) (sym (q ∙ ap (λ (i : ℕ). call.TheVariants.Command i (signed g x)) n)) (commands (both_named D a b (0 + length ds + 4) e x o v)),
    )
said_of D ns s ps (Deliver v) c w (ds, is, n) q =
    subst (λ (us : List Part). (undeclared D 0 us ≡ []) × Says D us c) (sym is)
    (refl, subst (Says D _) (sym (q ∙ ap call.TheVariants.Deliver n)) delivers)

pub said : (D : List Change) (ns : List Need) (s : List ℕ) (ps : List Part) (d : Draft) (c : Call) → Whole ns s ps → Drafted D 0 ps d → Completes d c → Said D ns s c
said D ns s ps d c w o q = let (e, says) = said_of D ns s ps d c w o q in (ps, accepted w e, says)

-- and what it misses is the leftmost that is not declared
missed_of : (D : List Change) (ps : List Part) (d : Draft) (f : TextFault) → Drafted D 0 ps d → Misses d f → First (undeclared D 0 ps) f
missed_of D ps (Declare g e) f (a, b, is, o) m = subst (λ (us : List ℕ). First us f) (sym (ap (undeclared D 0) is ∙ declare_nodes D g a b)) (both_missing D a b (0 + 4) e f o m)
missed_of D ps (Keep n v) f (a, ds, is, o, u) m = subst (λ (us : List ℕ). First us f) (sym (ap (undeclared D 0) is ∙ keep_node D a ds)) (one_missing D a (0 + 2) n f o m)
missed_of D ps (Seat e) f (a, b, is, o) m = subst (λ (us : List ℕ). First us f) (sym (ap (undeclared D 0) is ∙ seat_nodes D a b)) (both_missing D a b (0 + 2) e f o m)
missed_of D ps Open f is m = absurd m
missed_of D ps (Command u g e) f (ds, a, b, is, n, o) m =
    subst (λ (us : List ℕ). First us f) (sym (ap (undeclared D 0) is ∙ command_nodes D ds g a b)) (both_missing D a b (0 + length ds + 4) e f o m)
missed_of D ps (Deliver v) f o m = absurd m

pub missed : (D : List Change) (ns : List Need) (s : List ℕ) (ps : List Part) (d : Draft) (f : TextFault) → Whole ns s ps → Drafted D 0 ps d → Misses d f → Refused D ns s f
missed D ns s ps d f w o m = let (c, cs, e, q) = missed_of D ps d f o m in inr (ps, c, cs, w, e, q)

-- What the readers answer

module _ (D : List Change) (s : List ℕ) (t : Cursor) (text : t.text.now ≡ take 128 s) (start : t.column ≡ 0) where
  answered : (ns : List Need) → plain ns ≡ true → (r : Cursor) (d : Draft) → DraftRead D ns t r d → (o : Result Call TextFault) → Completed s r d o
      → MatchResult o (λ c. Said D ns s c) (λ f. Refused D ns s f)
  answered ns h r d x (Ok c) (e, l, q) =
      said D ns s x.parts d c (whole_read s t text start ns r x.parts x.read h e l) (subst (λ (k : ℕ). Drafted D k x.parts d) start x.drafted) q
  answered ns h r d x (Err f) (inl m) = not_ended s t text start ns r x.parts x.read D f m
  answered ns h r d x (Err f) (inr (e, l, m)) =
      missed D ns s x.parts d f (whole_read s t text start ns r x.parts x.read h e l) (subst (λ (k : ℕ). Drafted D k x.parts d) start x.drafted) m

  pub command_answered : (r : Cursor) (d : Draft) → DraftRead D command_form t r d → (o : Result Call TextFault) → Completed s r d o
      → MatchResult o (λ c. Said D command_form s c) (λ f. Refused D command_form s f)
  command_answered r d x o q = answered command_form refl r d x o q

  pub command_failed : (f : TextFault) → Fails command_form t f → Refused D command_form s f
  command_failed f h = not_read s t text start command_form D f h

  same_form : form_of t.text.now ≡ form_of s
  same_form = ap form_of text ∙ form_front s

  pub call_answered : (r : Cursor) (d : Draft) → DraftRead D (form_of t.text.now) t r d → (o : Result Call TextFault) → Completed s r d o
      → MatchResult o (λ c. Said D (form_of s) s c) (λ f. Refused D (form_of s) s f)
  call_answered r d x o q = answered (form_of s) (form_plain s) r d (subst (λ (ns : List Need). DraftRead D ns t r d) same_form x) o q

  pub call_failed : (f : TextFault) → Fails (form_of t.text.now) t f → Refused D (form_of s) s f
  call_failed f h = not_read s t text start (form_of s) D f (subst (λ (ns : List Need). Fails ns t f) same_form h)
