-- One thing read after another.
use Rattle.std.proofs.Common.{◌≡◌, ℕ, zero, suc, ◌+◌, ◌-◌, true, List, [], ◌∷◌, ◌++◌, length, Some, None, Option, sym, refl, ap, ◌∙◌, subst, arith, append_assoc, length-append}
use Rattle.std.proofs.lemmas.Bool.{and_from, cond-true, eq-eqb}
use Rattle.edges.specs.declared.edges.Change.{Change}
use Rattle.lines.specs.declared.fault.TextFault.{TextFault}
use Rattle.lines.specs.declared.fault.TextFault.TheVariants.{Malformed, TooDeep}
use Rattle.lines.specs.declared.letters.Letter.{Letter}
use Rattle.lines.specs.declared.signs.Sign.{Sign}
use Rattle.lines.specs.declared.cursor.Cursor.{Cursor}
use Rattle.lines.specs.declared.token.Token.{Token}
use Rattle.lines.specs.Spelling.{letter_byte, sign_byte, first_vertex, Node, leaf, pair, spelt}
use Rattle.lines.specs.Reading.{Need, a_byte, a_letter, a_node, a_number, bracket, opened, asked, Step, on, stop, step, reading}
use Rattle.lines.specs.Tokens.{sign_told, letter_told}
use Rattle.lines.specs.Cursors.{Passes, Fails, NextRead, ByteRead, NameRead, NodeRead, BracketRead}
use Rattle.lines.specs.Ends.{joined, named_by}
use Rattle.lines.specs.declared.ends.Ends.{Ends}
use Rattle.lines.specs.Lines.{is_node_letter}
use Rattle.lines.proofs.Backwards.{sign_is, letter_is}
use Rattle.lines.proofs.Cuts.{steps, steps_on, long}

-- Needs in a row

pub then_passes : {ns ms : List Need} {s r t : Cursor} → Passes ns s r → Passes ms r t → Passes (ns ++ ms) s t
then_passes {ns} {ms} {s} {r} {t} p q =
    record {
      goes = λ st. ap (λ (os : List Need). reading asked os s.column s.text.now) (append_assoc ns ms st) ∙ p.goes (ms ++ st) ∙ q.goes st;
      ends = q.ends ∙ p.ends;
    }

pub fails_here : (ns ms : List Need) (s : Cursor) (f : TextFault) → Fails ns s f → Fails (ns ++ ms) s f
fails_here ns ms s f h st = ap (λ (os : List Need). reading asked os s.column s.text.now) (append_assoc ns ms st) ∙ h (ms ++ st)

pub fails_then : {ns : List Need} {s r : Cursor} (ms : List Need) (f : TextFault) → Passes ns s r → Fails ms r f → Fails (ns ++ ms) s f
fails_then {ns} {s} ms f p h st = ap (λ (os : List Need). reading asked os s.column s.text.now) (append_assoc ns ms st) ∙ p.goes (ms ++ st) ∙ h st

abbrev ends : ℕ → ℕ → Option ℕ → Option ℕ → Ends
ends c k v w = record { from = record { vertex = v; column = c }; to = record { vertex = w; column = k } }

-- A bracket, and where it may fail

-- what is needed behind each part of it
abbrev closing : List Need
closing = a_byte 41 ∷ []

abbrev to_right : ℕ → List Need
to_right d = a_node d ∷ closing

abbrev to_comma : ℕ → List Need
to_comma d = a_byte 44 ∷ to_right d

abbrev to_left : ℕ → List Need
to_left d = a_node d ∷ to_comma d

pub open_fails : (d : ℕ) (s : Cursor) (f : TextFault) → Fails (a_byte 40 ∷ []) s f → Fails (bracket d []) s f
open_fails d s f h = fails_here (a_byte 40 ∷ []) (to_left d) s f h

module _ (D : List Change) (d : ℕ) (s s1 : Cursor) (b1 : ByteRead 40 s s1) where
  pub left_fails : (f : TextFault) → Fails (a_node d ∷ []) s1 f → Fails (bracket d []) s f
  left_fails f h = fails_then (to_left d) f b1.passes (fails_here (a_node d ∷ []) (to_comma d) s1 f h)

  module _ (s2 : Cursor) (v : Option ℕ) (n1 : NodeRead D d s1 s2 v) where
    pub comma_fails : (f : TextFault) → Fails (a_byte 44 ∷ []) s2 f → Fails (bracket d []) s f
    comma_fails f h = fails_then (to_left d) f b1.passes (fails_then (to_comma d) f n1.passes (fails_here (a_byte 44 ∷ []) (to_right d) s2 f h))

    module _ (s3 : Cursor) (b2 : ByteRead 44 s2 s3) where
      pub right_fails : (f : TextFault) → Fails (a_node d ∷ []) s3 f → Fails (bracket d []) s f
      right_fails f h =
          fails_then (to_left d) f b1.passes (fails_then (to_comma d) f n1.passes (fails_then (to_right d) f b2.passes (fails_here (a_node d ∷ []) closing s3 f h)))

      module _ (s4 : Cursor) (w : Option ℕ) (n2 : NodeRead D d s3 s4 w) where
        pub close_fails : (f : TextFault) → Fails (a_byte 41 ∷ []) s4 f → Fails (bracket d []) s f
        close_fails f h =
            fails_then (to_left d) f b1.passes (fails_then (to_comma d) f n1.passes (fails_then (to_right d) f b2.passes (fails_then closing f n2.passes h)))

        first : s1.column ≡ s.column + 1
        first = let e = b1.passes.ends in omega (arith, ap length b1.text)

        second : s3.column ≡ s.column + 1 + length (spelt n1.tree) + 1
        second =
            let e = n1.passes.ends in
            let f = b2.passes.ends in
            let a = first in
            omega (arith, ap length b2.text, ap length n1.text, length-append (spelt n1.tree) s2.text.now)

        pub bracket_read : (r : Cursor) → ByteRead 41 s4 r → BracketRead D d s r (ends s1.column s3.column v w)
        bracket_read r b3 =
            record {
              left = n1.tree;
              right = n2.tree;
              text = b1.text ∙ ap (λ (t : List ℕ). 40 ∷ t) (n1.text ∙ ap (λ (t : List ℕ). spelt n1.tree ++ t)
                  (b2.text ∙ ap (λ (t : List ℕ). 44 ∷ t) (n2.text ∙ ap (λ (t : List ℕ). spelt n2.tree ++ t) b3.text)));
              form = (n1.form, n2.form);
              vertices = (n1.vertex, n2.vertex);
              columns = (first, second);
              passes = then_passes b1.passes (then_passes n1.passes (then_passes b2.passes (then_passes n2.passes b3.passes)));
            }

-- A node

abbrev leads : ℕ → List Need → ℕ → Option Sign → Option Letter → Step
leads d st c o k = elim o [ Some g ↦ opened d st c | None ↦ elim k [ None ↦ stop (Malformed c) | Some l ↦ on (a_number l c ∷ st) ] ]

module _ (s : Cursor) (t : Token) (r : Cursor) (n : NextRead s t r) where
  -- the step that its first byte makes
  leads_by : (d : ℕ) (st : List Need) → step asked (a_node d ∷ st) s.column n.byte ≡ leads d st s.column (sign_told t.text.now) (letter_told t.text.now)
  leads_by d st = ap (λ (u : List ℕ). leads d st s.column (sign_told u) (letter_told u)) (sym n.single)

  -- a sign
  module _ (g : Sign) (sg : sign_told t.text.now ≡ Some g) where
    signs : (d : ℕ) (st : List Need) → step asked (a_node d ∷ st) s.column n.byte ≡ opened d st s.column
    signs d st = leads_by d st ∙ ap (λ (o : Option Sign). leads d st s.column o (letter_told t.text.now)) sg

    pub too_deep : Fails (a_node 0 ∷ []) s (TooDeep s.column)
    too_deep st = steps s t r n (a_node 0) st (stop (TooDeep s.column)) (signs 0 st)

    goes_in : (d : ℕ) (st : List Need) → reading asked (a_node (suc d) ∷ st) s.column s.text.now ≡ reading asked (bracket d st) r.column r.text.now
    goes_in d st = steps_on s t r n (a_node (suc d)) st (bracket d st) (signs (suc d) st)

    pub inner_fails : (d : ℕ) (f : TextFault) → Fails (bracket d []) r f → Fails (a_node (suc d) ∷ []) s f
    inner_fails d f h st = goes_in d st ∙ h st

    pair_read : (D : List Change) (d : ℕ) (q : Cursor) (e : Ends) → BracketRead D d r q e → NodeRead D (suc d) s q (joined D g e.from.vertex e.to.vertex)
    pair_read D d q e b =
        record {
          tree = pair g b.left b.right;
          text = n.text ∙ ap (λ (y : ℕ). y ∷ r.text.now) (sign_is n.byte g (ap sign_told (sym n.single) ∙ sg)) ∙ ap (λ (u : List ℕ). sign_byte g ∷ u) (b.text ∙ ap (λ (u : List ℕ). 40 ∷ u) (sym (regroup b.left b.right)));
          form = and_from _ _ b.form.0 b.form.1;
          vertex = ap (λ (o : Option ℕ). joined D g o e.to.vertex) b.vertices.0 ∙ ap (joined D g (named_by D b.left)) b.vertices.1;
          passes = record { goes = λ st. goes_in d st ∙ b.passes.goes st; ends = b.passes.ends ∙ long s t r n };
        }
      where
        regroup : (a b : Node) → (spelt a ++ (44 ∷ (spelt b ++ (41 ∷ [])))) ++ q.text.now ≡ spelt a ++ (44 ∷ (spelt b ++ (41 ∷ q.text.now)))
        regroup a b = append_assoc (spelt a) (44 ∷ (spelt b ++ (41 ∷ []))) q.text.now ∙ ap (λ (u : List ℕ). spelt a ++ (44 ∷ u)) (append_assoc (spelt b) (41 ∷ []) q.text.now)

    pub pair_named : (D : List Change) (d : ℕ) (q : Cursor) (e : Ends) (u : Option ℕ) → (d ≡ 0 → ⊥) → BracketRead D (d - 1) r q e → u ≡ joined D g e.from.vertex e.to.vertex → NodeRead D d s q u
    pair_named D zero q e u h b v = absurd (h refl)
    pair_named D (suc d) q e u h b v =
        let less : suc d - 1 ≡ d = omega arith in
        subst (λ (o : Option ℕ). NodeRead D (suc d) s q o) (sym v) (pair_read D d q e (subst (λ (i : ℕ). BracketRead D i r q e) less b))

  -- no sign
  module _ (sg : sign_told t.text.now ≡ None) where
    unsigned : (d : ℕ) (st : List Need) → step asked (a_node d ∷ st) s.column n.byte ≡ leads d st s.column None (letter_told t.text.now)
    unsigned d st = leads_by d st ∙ ap (λ (o : Option Sign). leads d st s.column o (letter_told t.text.now)) sg

    pub no_node : (d : ℕ) → letter_told t.text.now ≡ None → Fails (a_node d ∷ []) s (Malformed s.column)
    no_node d k st = steps s t r n (a_node d) st (stop (Malformed s.column)) (unsigned d st ∙ ap (leads d st s.column None) k)

    -- a node that is a name is read as a name
    module _ (l : Letter) (k : letter_told t.text.now ≡ Some l) where
      is_letter : (n.byte ≡ letter_byte l) × (is_node_letter l ≡ true)
      is_letter = letter_is n.byte l (ap letter_told (sym n.single) ∙ k)

      as_name : (d : ℕ) (st : List Need) → reading asked (a_node d ∷ st) s.column s.text.now ≡ reading asked (a_letter l ∷ st) s.column s.text.now
      as_name d st =
          steps s t r n (a_node d) st (on (a_number l s.column ∷ st)) (unsigned d st ∙ ap (leads d st s.column None) k)
          ∙ sym (steps s t r n (a_letter l) st (on (a_number l s.column ∷ st)) (cond-true _ _ _ (eq-eqb n.byte (letter_byte l) is_letter.0)))

      pub name_fails : (d : ℕ) (f : TextFault) → Fails (a_letter l ∷ []) s f → Fails (a_node d ∷ []) s f
      name_fails d f h st = as_name d st ∙ h st

      pub leaf_read : (D : List Change) (d : ℕ) (q : Cursor) (m : ℕ) → NameRead l s q m → NodeRead D d s q (Some (first_vertex l + m))
      leaf_read D d q m y =
          record {
            tree = leaf l y.digits;
            text = y.text;
            form = and_from _ _ is_letter.1 y.numeral;
            vertex = ap (λ (i : ℕ). Some (first_vertex l + i)) y.value;
            passes = record { goes = λ st. as_name d st ∙ y.passes.goes st; ends = y.passes.ends };
          }

-- the line ends where a node has to come
pub none_node : (d : ℕ) (s : Cursor) → s.text.now ≡ [] → Fails (a_node d ∷ []) s (Malformed s.column)
none_node d s e st = ap (reading asked (a_node d ∷ st) s.column) e
