-- The text of a command that may be given is read back to it.
use Rattle.std.proofs.Common.{◌≡◌, ℕ, ◌≤◌, ◌<◌, Bool, true, false, List, [], ◌∷◌, ◌++◌, length, Some, None, Ok, if◌then◌else◌, ltb, not, sym, refl, ap, ◌∙◌, subst, arith, length-append}
use Rattle.std.specs.Fmt.{decimal}
use Rattle.edges.specs.declared.edges.Edge.{Edge}
use Rattle.edges.specs.declared.edges.Change.{Change}
use Rattle.edges.specs.Edges.{edge, edge_of, is_user}
use Rattle.lines.specs.declared.fault.TextFault.{TextFault}
use Rattle.calls.specs.declared.call.Call.TheVariants.{Command}
use Rattle.privileges.specs.Privileges.{Proper, assigns, inherits, permits, administers}
use Rattle.privileges.specs.Privileges.{is_proper}
use Rattle.lines.specs.declared.fault.WriteFault.TheVariants.{NoUser, NoEdge, NoRoom}
use Rattle.std.proofs.lemmas.Bool.{ltb-true}
use Rattle.std.proofs.lemmas.Option.{none-some}
use Rattle.privileges.proofs.Declared.{names_named, proper_decides}
use Rattle.privileges.specs.Declaring.{IsOrdered}
use Rattle.lines.specs.declared.letters.Letter.TheVariants.{User}
use Rattle.lines.specs.Spelling.{sign_in, told, signed, Node, spelt, mark, sign, node, spelt_parts}
use Rattle.lines.specs.Reading.{asked}
use Rattle.lines.specs.Lines.{for_byte, for_sign, for_letter, for_node, Line, no_more, before, refusals}
use Rattle.lines.specs.Forms.{command_form, undeclared, NamedBoth, Accepted, Says, commands, Said}
use Rattle.lines.specs.Writing.{node_of, parts_of, text_of, write_answer}
use Rattle.lines.specs.Laws.{ReadsBack}
use Rattle.lines.proofs.Wholes.{known}
use Rattle.lines.proofs.Sayings.{answers_once}
use Rattle.lines.proofs.Fine.{decimal_numeral, decimal_told, decimal_short, no_number, Fine, Level, low, high, first_low, signed_whole, fine_low, fine_node}
use Rattle.lines.proofs.Texts.{low_node}

-- the second vertex of a proper edge
second_level : (D : List Change) → IsOrdered D → (e : Edge) → Proper D e → Level D 8 e.to
second_level D o e (assigns a b) = low (let m = b.1 in omega arith)
second_level D o e (inherits a b) = low (let m = b.1 in omega arith)
second_level D o e (permits a b) = low (let m = b.1 in omega arith)
second_level D o e (administers {c = c} a n) =
    let (i, q, g) = n in
    let (j, d, le) = o.depths i c g in
    high c (names_named D e.to c n) j d le

module _ (D : List Change) (o : IsOrdered D) (u : ℕ) (c : Change) (user : u < 64) (proper : Proper D (edge_of c)) where
  abbrev digits : List ℕ
  digits = decimal u

  abbrev left : Node
  left = node_of D 8 (edge_of c).from

  abbrev right : Node
  right = node_of D 8 (edge_of c).to

  from_low : (edge_of c).from < 128
  from_low = first_low D (edge_of c) proper

  fine_left : Fine D 8 (edge_of c).from left
  fine_left = fine_node D o 8 (edge_of c).from (low (let f = from_low in omega arith))

  fine_right : Fine D 8 (edge_of c).to right
  fine_right = fine_node D o 8 (edge_of c).to (second_level D o (edge_of c) proper)

  short_left : length (spelt left) ≤ 4
  short_left =
      let l : (edge_of c).from < 256 = let f = from_low in omega arith in
      subst (λ (t : Node). length (spelt t) ≤ 4) (sym (low_node D 8 (edge_of c).from l)) (let s = (fine_low D 0 (edge_of c).from l).short in omega arith)

  numeral : told 0 digits ≡ u
  numeral = decimal_told u (omega arith)

  line : Line command_form (parts_of D (Command u c))
  line =
      before (for_letter (decimal_numeral u (omega arith))) (before for_byte (before for_sign (before for_byte
      (before (for_node fine_left.form) (before for_byte (before (for_node fine_right.form) no_more))))))

  -- nothing to refuse in three things is nothing in all
  none : (a b d : List TextFault) → a ≡ [] → b ≡ [] → d ≡ [] → a ++ (b ++ (d ++ [])) ≡ []
  none a b d p q r = ap (λ (x : List TextFault). x ++ (b ++ (d ++ []))) p ∙ ap (λ (x : List TextFault). x ++ (d ++ [])) q ∙ ap (λ (x : List TextFault). x ++ []) r

  clean : refusals asked command_form 0 (parts_of D (Command u c)) ≡ []
  clean = none _ _ _ (no_number 0 User digits (let e = numeral in omega arith)) (fine_left.clean _) (fine_right.clean _)

  pub written_short : length (text_of D (Command u c)) ≤ 80
  written_short =
      let d = decimal_short u (omega arith) in
      let r = fine_right.short in
      omega (
        arith,
        short_left,
        length-append (spelt right) [],
        length-append (spelt left) (32 ∷ (spelt right ++ [])),
        length-append digits (32 ∷ spelt_parts (sign (sign_in c) ∷ mark 32 ∷ node left ∷ mark 32 ∷ node right ∷ [])),
      )

  missing_none : (a b : List ℕ) → a ≡ [] → b ≡ [] → a ++ (b ++ []) ≡ []
  missing_none a b p q = ap (λ (x : List ℕ). x ++ (b ++ [])) p ∙ ap (λ (x : List ℕ). x ++ []) q

  declared : undeclared D 0 (parts_of D (Command u c)) ≡ []
  declared = missing_none _ _ (known D left _ (edge_of c).from fine_left.names) (known D right _ (edge_of c).to fine_right.names)

  pub accepted : Accepted D command_form (text_of D (Command u c)) (parts_of D (Command u c))
  accepted = record { whole = record { line = line; text = refl; clean = clean; short = let w = written_short in omega arith }; declared = declared }

  says : Says D (parts_of D (Command u c)) (Command u c)
  says =
      let both : NamedBoth D left right (edge_of c).from (edge_of c).to = record { from = fine_left.names; to = fine_right.names } in
      subst (Says D (parts_of D (Command u c)))
      (ap (λ (n : ℕ). Command n (signed (sign_in c) (edge_of c))) numeral ∙ ap (Command u) (signed_whole c)) (commands both)

  pub written_said : Said D command_form (text_of D (Command u c)) (Command u c)
  written_said = (parts_of D (Command u c), accepted, says)

-- so it is read back to the command
may_be_written : (D : List Change) (u : ℕ) (c : Change) → write_answer D u c 128 ≡ None → (is_user u ≡ true) × (is_proper D (edge_of c) ≡ true)
may_be_written D u c h = by (is_user u) refl (is_proper D (edge_of c)) refl h
  where
    by : (a : Bool) → is_user u ≡ a → (b : Bool) → is_proper D (edge_of c) ≡ b
        → (if not a then Some NoUser else if not b then Some NoEdge else if ltb 128 128 then Some NoRoom else None) ≡ None → (is_user u ≡ true) × (is_proper D (edge_of c) ≡ true)
    by true p true q h = (p, q)
    by false p b q h = absurd (none-some NoUser (sym h))
    by true p false q h = absurd (none-some NoEdge (sym h))

pub reads_back : ReadsBack
reads_back D o u c h =
    let (user, edge) = may_be_written D u c h in
    let u64 = ltb-true u 64 user in
    let proper = (proper_decides D (edge_of c)).0 edge in
    let short = written_short D o u c u64 proper in
    (omega arith, refl, λ r a. answers_once D command_form (text_of D (Command u c)) r (Ok (Command u c)) refl a (written_said D o u c u64 proper))
