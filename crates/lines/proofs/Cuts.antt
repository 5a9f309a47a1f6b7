-- Tokens of one byte.
use Rattle.std.proofs.Common.{◌≡◌, ℕ, suc, ◌+◌, ◌≤◌, Bool, true, false, eqb, List, [], ◌∷◌, length, take, drop, Some, None, Option, sym, refl, ap, ◌∙◌, arith}
use Rattle.std.proofs.lemmas.Bool.{cond-true, cond-false, eq-eqb, eqb-true}
use Rattle.lines.specs.declared.fault.TextFault.TheVariants.{Malformed}
use Rattle.lines.specs.declared.signs.Sign.{Sign}
use Rattle.lines.specs.declared.cursor.Cursor.{Cursor}
use Rattle.lines.specs.declared.token.Token.{Token}
use Rattle.lines.specs.Spelling.{sign_of}
use Rattle.lines.specs.Reading.{Need, a_byte, a_sign, asked, Step, on, stop, step, going, reading}
use Rattle.lines.specs.Tokens.{sign_told}
use Rattle.lines.specs.Cursors.{Fails, Cut, NextRead, ByteRead, SignRead}
use Rattle.lines.proofs.Backwards.{sign_is}

pub next_read : (s : Cursor) (t : Token) (r : Cursor) → Cut 1 s t r → NextRead s t r
next_read s t r c = by s.text.now c.within c.text c.rest refl
  where
    by : (u : List ℕ) → 1 ≤ length u → t.text.now ≡ take 1 u → r.text.now ≡ drop 1 u → s.text.now ≡ u → NextRead s t r
    by [] h e f q = absurd (omega arith)
    by (x ∷ u) h e f q =
        record { byte = x; single = e; text = q ∙ ap (λ (v : List ℕ). x ∷ v) (sym f); column = let k = c.column in omega arith }

module _ (s : Cursor) (t : Token) (r : Cursor) (n : NextRead s t r) where
  -- the step that the byte makes
  pub steps : (m : Need) (st : List Need) (p : Step) → step asked (m ∷ st) s.column n.byte ≡ p
      → reading asked (m ∷ st) s.column s.text.now ≡ going p (λ next. reading asked next (suc s.column) r.text.now)
  steps m st p e =
      ap (reading asked (m ∷ st) s.column) n.text ∙ ap (λ (p : Step). going p (λ next. reading asked next (suc s.column) r.text.now)) e

  -- and what comes then, where the line goes on
  pub steps_on : (m : Need) (st next : List Need) → step asked (m ∷ st) s.column n.byte ≡ on next → reading asked (m ∷ st) s.column s.text.now ≡ reading asked next r.column r.text.now
  steps_on m st next e = steps m st (on next) e ∙ ap (λ (c : ℕ). reading asked next c r.text.now) (sym n.column)

  pub long : r.column + length r.text.now ≡ s.column + length s.text.now
  long = let c = n.column in omega (arith, ap length n.text)

  -- a token that is one byte is its own
  pub byte_is : (x : ℕ) → t.text.now ≡ x ∷ [] → n.byte ≡ x
  byte_is x h = let e = n.single in cc

  pub byte_is_not : (x : ℕ) → (t.text.now ≡ x ∷ [] → ⊥) → (n.byte ≡ x → ⊥)
  byte_is_not x h e = h (n.single ∙ ap (λ (y : ℕ). y ∷ []) e)

  pub not_equal : (x : ℕ) → (t.text.now ≡ x ∷ [] → ⊥) → eqb n.byte x ≡ false
  not_equal x h = by (eqb n.byte x) refl
    where
      by : (b : Bool) → eqb n.byte x ≡ b → eqb n.byte x ≡ false
      by true e = absurd (byte_is_not x h (eqb-true n.byte x e))
      by false e = e

  pub byte_read : (x : ℕ) → t.text.now ≡ x ∷ [] → ByteRead x s r
  byte_read x h =
      record {
        text = n.text ∙ ap (λ (y : ℕ). y ∷ r.text.now) (byte_is x h);
        passes = record { goes = λ st. steps_on (a_byte x) st st (cond-true _ _ _ (eq-eqb n.byte x (byte_is x h))); ends = long };
      }

  pub byte_other : (x : ℕ) → (t.text.now ≡ x ∷ [] → ⊥) → Fails (a_byte x ∷ []) s (Malformed s.column)
  byte_other x h st = steps (a_byte x) st (stop (Malformed s.column)) (cond-false _ _ _ (not_equal x h))

  -- what a sign that may be one makes
  abbrev signed_step : List Need → Option Sign → Step
  signed_step st None = stop (Malformed s.column)
  signed_step st (Some g) = on st

  sign_step : (st : List Need) → step asked (a_sign ∷ st) s.column n.byte ≡ signed_step st (sign_told t.text.now)
  sign_step st = by (sign_of n.byte) ∙ ap (λ (u : List ℕ). signed_step st (sign_told u)) (sym n.single)
    where
      by : (o : Option Sign) → (elim o [ None ↦ stop (Malformed s.column) | Some g ↦ on st ]) ≡ signed_step st o
      by None = refl
      by (Some g) = refl

  pub sign_read : (g : Sign) → sign_told t.text.now ≡ Some g → SignRead s r g
  sign_read g h =
      let is : sign_of n.byte ≡ Some g = ap sign_told (sym n.single) ∙ h in
      record {
        text = n.text ∙ ap (λ (y : ℕ). y ∷ r.text.now) (sign_is n.byte g is);
        passes = record { goes = λ st. steps_on a_sign st st (sign_step st ∙ ap (signed_step st) h); ends = long };
      }

  pub sign_other : sign_told t.text.now ≡ None → Fails (a_sign ∷ []) s (Malformed s.column)
  sign_other h st = steps a_sign st (stop (Malformed s.column)) (sign_step st ∙ ap (signed_step st) h)

-- the line ends where a byte, or a sign, has to come
pub byte_none : (x : ℕ) (s : Cursor) → s.text.now ≡ [] → Fails (a_byte x ∷ []) s (Malformed s.column)
byte_none x s e st = ap (reading asked (a_byte x ∷ st) s.column) e

pub sign_none : (s : Cursor) → s.text.now ≡ [] → Fails (a_sign ∷ []) s (Malformed s.column)
sign_none s e st = ap (reading asked (a_sign ∷ st) s.column) e
