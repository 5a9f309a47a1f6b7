-- The parts of a line, one after another.
use Rattle.std.proofs.Common.{◌≡◌, ℕ, ◌+◌, List, [], ◌∷◌, ◌++◌, length, Option, sym, refl, ap, ◌∙◌, subst, arith, append_assoc, length-append}
use Rattle.edges.specs.declared.edges.Change.{Change}
use Rattle.lines.specs.declared.fault.TextFault.{TextFault}
use Rattle.lines.specs.declared.letters.Letter.{Letter}
use Rattle.lines.specs.declared.letters.Letter.TheVariants.{User, Vault}
use Rattle.lines.specs.declared.signs.Sign.{Sign}
use Rattle.lines.specs.declared.cursor.Cursor.{Cursor}
use Rattle.lines.specs.declared.ends.Ends.{Ends}
use Rattle.lines.specs.declared.draft.Draft.TheVariants.{Declare, Keep, Seat, Open, Command, Deliver}
use Rattle.lines.specs.Spelling.{letter_byte, sign_byte, Node, spelt, Part, mark, sign, numbered, node, spelt_part, spelt_parts}
use Rattle.lines.specs.Reading.{Need, a_byte, a_sign, a_letter, a_node, bracket}
use Rattle.lines.specs.Lines.{for_byte, for_sign, for_letter, for_node, Line, no_more, before}
use Rattle.lines.specs.Cursors.{Fails, ByteRead, SignRead, NameRead, NodeRead, BracketRead}
use Rattle.lines.specs.Forms.{two_nodes, declare_form, keep_form, seat_form, open_form, deliver_form, command_form}
use Rattle.lines.specs.Drafts.{PartsRead, KeywordRead, OfBoth, NodesRead, DraftRead}
use Rattle.lines.proofs.Composing.{then_passes, fails_here, fails_then}

-- Lines in a row

both_lines : {ns ms : List Need} {ps qs : List Part} → Line ns ps → Line ms qs → Line (ns ++ ms) (ps ++ qs)
both_lines no_more k = k
both_lines (before f l) k = before f (both_lines l k)

spelt_both : (ps qs : List Part) → spelt_parts (ps ++ qs) ≡ spelt_parts ps ++ spelt_parts qs
spelt_both [] qs = refl
spelt_both (p ∷ ps) qs =
    ap (λ (t : List ℕ). spelt_part p ++ t) (spelt_both ps qs) ∙ sym (append_assoc (spelt_part p) (spelt_parts ps) (spelt_parts qs))

pub parts_then : {ns ms : List Need} {s r t : Cursor} {ps qs : List Part} → PartsRead ns s r ps → PartsRead ms r t qs → PartsRead (ns ++ ms) s t (ps ++ qs)
parts_then {t = t} {ps = ps} {qs = qs} p q =
    record {
      line = both_lines p.line q.line;
      text =
          p.text ∙ ap (λ (u : List ℕ). spelt_parts ps ++ u) q.text ∙ sym (append_assoc (spelt_parts ps) (spelt_parts qs) t.text.now)
          ∙ ap (λ (u : List ℕ). u ++ t.text.now) (sym (spelt_both ps qs));
      passes = then_passes p.passes q.passes;
    }

-- the column behind them
pub column_after : {ns : List Need} {s r : Cursor} {ps : List Part} → PartsRead ns s r ps → r.column ≡ s.column + length (spelt_parts ps)
column_after {s = s} {r = r} {ps = ps} p = let e = p.passes.ends in omega (arith, ap length p.text, length-append (spelt_parts ps) r.text.now)

-- a refusal behind them, before others that are needed
pub fails_at : {ns : List Need} {s r : Cursor} {ps : List Part} (ms os : List Need) (f : TextFault) → PartsRead ns s r ps → Fails ms r f → Fails (ns ++ (ms ++ os)) s f
fails_at {r = r} ms os f p h = fails_then (ms ++ os) f p.passes (fails_here ms os r f h)

pub fails_last : {ns : List Need} {s r : Cursor} {ps : List Part} (ms : List Need) (f : TextFault) → PartsRead ns s r ps → Fails ms r f → Fails (ns ++ ms) s f
fails_last ms f p h = fails_then ms f p.passes h

-- Single parts

alone : (t : List ℕ) → t ++ [] ≡ t
alone [] = refl
alone (x ∷ t) = ap (λ (u : List ℕ). x ∷ u) (alone t)

pub byte_part : {x : ℕ} {s r : Cursor} → ByteRead x s r → PartsRead (a_byte x ∷ []) s r (mark x ∷ [])
byte_part b = record { line = before for_byte no_more; text = b.text; passes = b.passes }

pub sign_part : {s r : Cursor} {g : Sign} → SignRead s r g → PartsRead (a_sign ∷ []) s r (sign g ∷ [])
sign_part b = record { line = before for_sign no_more; text = b.text; passes = b.passes }

pub node_part : {D : List Change} {d : ℕ} {s r : Cursor} {v : Option ℕ} (n : NodeRead D d s r v) → PartsRead (a_node d ∷ []) s r (node n.tree ∷ [])
node_part {r = r} n =
    record { line = before (for_node n.form) no_more; text = n.text ∙ ap (λ (t : List ℕ). t ++ r.text.now) (sym (alone (spelt n.tree))); passes = n.passes }

pub name_part : {l : Letter} {s r : Cursor} {n : ℕ} (y : NameRead l s r n) → PartsRead (a_letter l ∷ []) s r (numbered l y.digits ∷ [])
name_part {l} {r = r} y =
    record {
      line = before (for_letter y.numeral) no_more;
      text = y.text ∙ ap (λ (u : List ℕ). letter_byte l ∷ (u ++ r.text.now)) (sym (alone y.digits));
      passes = y.passes;
    }

-- the letter of a line, and a space
pub keyword_read : (x : ℕ) (s r t : Cursor) → ByteRead x s r → ByteRead 32 r t → KeywordRead x s t
keyword_read x s r t a b = parts_then (byte_part a) (byte_part b)

pub keyword_fails : (x : ℕ) (s r : Cursor) (f : TextFault) → ByteRead x s r → Fails (a_byte 32 ∷ []) r f → Fails (a_byte x ∷ a_byte 32 ∷ []) s f
keyword_fails x s r f a h = fails_last (a_byte 32 ∷ []) f (byte_part a) h

pub keyword_none : (x : ℕ) (s : Cursor) (f : TextFault) → Fails (a_byte x ∷ []) s f → Fails (a_byte x ∷ a_byte 32 ∷ []) s f
keyword_none x s f h = fails_here (a_byte x ∷ []) (a_byte 32 ∷ []) s f h

-- two nodes
module _ (D : List Change) (s r : Cursor) (v : Option ℕ) (a : NodeRead D 8 s r v) where
  pub nodes_fail_between : (f : TextFault) → Fails (a_byte 32 ∷ []) r f → Fails two_nodes s f
  nodes_fail_between f h = fails_at (a_byte 32 ∷ []) (a_node 8 ∷ []) f (node_part a) h

  module _ (q : Cursor) (b : ByteRead 32 r q) where
    pub nodes_fail_after : (f : TextFault) → Fails (a_node 8 ∷ []) q f → Fails two_nodes s f
    nodes_fail_after f h = fails_last (a_node 8 ∷ []) f (parts_then (node_part a) (byte_part b)) h

    pub nodes_read : (t : Cursor) (w : Option ℕ) → NodeRead D 8 q t w
        → NodesRead D s t (record { from = record { vertex = v; column = s.column }; to = record { vertex = w; column = q.column } })
    nodes_read t w c =
        record {
          left = a.tree;
          right = c.tree;
          both = ((a.vertex, refl), (c.vertex, second));
          read = parts_then (parts_then (node_part a) (byte_part b)) (node_part c);
        }
      where
        second : q.column ≡ s.column + length (spelt a.tree) + 1
        second =
            let e = a.passes.ends in
            let f = b.passes.ends in
            omega (arith, ap length a.text, ap length b.text, length-append (spelt a.tree) r.text.now)

pub nodes_fail_before : (s : Cursor) (f : TextFault) → Fails (a_node 8 ∷ []) s f → Fails two_nodes s f
nodes_fail_before s f h = fails_here (a_node 8 ∷ []) (a_byte 32 ∷ a_node 8 ∷ []) s f h

-- Whole lines

pub open_read : (D : List Change) (s r : Cursor) → ByteRead 79 s r → DraftRead D open_form s r Open
open_read D s r a = record { parts = mark 79 ∷ []; read = byte_part a; drafted = refl }

pub deliver_read : (D : List Change) (s r t : Cursor) (n : ℕ) → KeywordRead 84 s r → NameRead Vault r t n → DraftRead D deliver_form s t (Deliver n)
deliver_read D s r t n a b = record { parts = mark 84 ∷ mark 32 ∷ numbered Vault b.digits ∷ []; read = parts_then a (name_part b); drafted = (b.digits, refl, b.value) }

pub keep_read : (D : List Change) (s r q u t : Cursor) (v : Option ℕ) (n : ℕ) → KeywordRead 75 s r → NodeRead D 8 r q v → ByteRead 32 q u → NameRead Vault u t n
    → DraftRead D keep_form s t (Keep (record { vertex = v; column = r.column }) n)
keep_read D s r q u t v n a b c d =
    record {
      parts = mark 75 ∷ mark 32 ∷ node b.tree ∷ mark 32 ∷ numbered Vault d.digits ∷ [];
      read = parts_then a (parts_then (node_part b) (parts_then (byte_part c) (name_part d)));
      drafted = (b.tree, d.digits, refl, (b.vertex, column_after a), d.value);
    }

-- nodes further on in a line
shifted : (D : List Change) (a b : Node) (c k : ℕ) (e : Ends) → k ≡ c → OfBoth D a b k e → OfBoth D a b c e
shifted D a b c k e q h = subst (λ (i : ℕ). OfBoth D a b i e) q h

pub seat_read : (D : List Change) (s r t : Cursor) (e : Ends) → KeywordRead 83 s r → NodesRead D r t e → DraftRead D seat_form s t (Seat e)
seat_read D s r t e a b =
    record {
      parts = mark 83 ∷ mark 32 ∷ node b.left ∷ mark 32 ∷ node b.right ∷ [];
      read = parts_then a b.read;
      drafted = (b.left, b.right, refl, shifted D b.left b.right (s.column + 2) r.column e (column_after a) b.both);
    }

pub command_read : (D : List Change) (s r q u w t : Cursor) (n : ℕ) (g : Sign) (e : Ends) → NameRead User s r n → ByteRead 32 r q → SignRead q u g → ByteRead 32 u w → NodesRead D w t e
    → DraftRead D command_form s t (Command n g e)
command_read D s r q u w t n g e a b c d f =
    let front = parts_then (name_part a) (parts_then (byte_part b) (parts_then (sign_part c) (byte_part d))) in
    let at : w.column ≡ s.column + length a.digits + 4 = omega (arith, column_after front, length-append a.digits (32 ∷ sign_byte g ∷ 32 ∷ [])) in
    record {
      parts = numbered User a.digits ∷ mark 32 ∷ sign g ∷ mark 32 ∷ node f.left ∷ mark 32 ∷ node f.right ∷ [];
      read = parts_then front f.read;
      drafted = (a.digits, f.left, f.right, refl, a.value, shifted D f.left f.right (s.column + length a.digits + 4) w.column e at f.both);
    }

bracket_part : {D : List Change} {d : ℕ} {s r : Cursor} {e : Ends} (b : BracketRead D d s r e)
    → PartsRead (bracket d []) s r (mark 40 ∷ node b.left ∷ mark 44 ∷ node b.right ∷ mark 41 ∷ [])
bracket_part {r = r} b =
    record {
      line = before for_byte (before (for_node b.form.0) (before for_byte (before (for_node b.form.1) (before for_byte no_more))));
      text = b.text ∙ ap (λ (u : List ℕ). 40 ∷ u) (sym (regroup b.left b.right));
      passes = b.passes;
    }
  where
    regroup : (x y : Node) → (spelt x ++ (44 ∷ (spelt y ++ (41 ∷ [])))) ++ r.text.now ≡ spelt x ++ (44 ∷ (spelt y ++ (41 ∷ r.text.now)))
    regroup x y = append_assoc (spelt x) (44 ∷ (spelt y ++ (41 ∷ []))) r.text.now ∙ ap (λ (u : List ℕ). spelt x ++ (44 ∷ u)) (append_assoc (spelt y) (41 ∷ []) r.text.now)

pub declare_read : (D : List Change) (s r q t : Cursor) (g : Sign) (e : Ends) → KeywordRead 68 s r → SignRead r q g → BracketRead D 7 q t e → DraftRead D declare_form s t (Declare g e)
declare_read D s r q t g e a b c =
    let front = parts_then a (sign_part b) in
    let at : q.column ≡ s.column + 3 = omega (arith, column_after front) in
    let from = c.columns.0 in
    let to = c.columns.1 in
    record {
      parts = mark 68 ∷ mark 32 ∷ sign g ∷ mark 40 ∷ node c.left ∷ mark 44 ∷ node c.right ∷ mark 41 ∷ [];
      read = parts_then front (bracket_part c);
      drafted = (c.left, c.right, refl, ((c.vertices.0, omega arith), (c.vertices.1, omega arith)));
    }
