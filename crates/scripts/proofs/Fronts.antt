-- A line is answered by its first 129 bytes.
use Rattle.std.proofs.Common.{◌≡◌, ℕ, ◌<◌, ◌≤◌, Bool, cond, List, [], ◌∷◌, ◌++◌, length, take, Some, None, Option, Result, inl, inr, refl, sym, ap, ◌∙◌, subst, arith}
use Rattle.std.proofs.lemmas.Bool.{lt-leb, cases_lt}
use Rattle.std.proofs.lemmas.List.{take_all, take-take, take-append-le, length-append, length-take-le}
use Rattle.lines.specs.declared.fault.TextFault.{TextFault}
use Rattle.scripts.specs.declared.fault.ScriptFault.{ScriptFault}
use Rattle.precedence.specs.Precedence.{Rule}
use Rattle.lines.specs.declared.fault.TextFault.TheVariants.{Malformed}
use Rattle.lines.specs.Reading.{Need, asked, reading}
use Rattle.lines.specs.Forms.{form_of, too_long, judged}
use Rattle.centre.specs.declared.installation.Installation.{Installation}
use Rattle.scripts.specs.Answering.{Answered, unread, carried}

-- one byte more where there is room, and where there is none
pub one_more : (xs ys : List ℕ) (b : ℕ) → length xs < 129 → ys ≡ xs ++ (b ∷ []) → ys ≡ take 129 (xs ++ (b ∷ []))
one_more xs ys b l q = q ∙ sym (take_all 129 (xs ++ (b ∷ [])) (simp length-append (omega (arith, l))))

pub full : (xs : List ℕ) (b : ℕ) → length xs ≡ 129 → xs ≡ take 129 (xs ++ (b ∷ []))
full xs b l = sym (take-append-le 129 xs (b ∷ []) (omega (arith, l)) ∙ take_all 129 xs (omega (arith, l)))

form_front : (s : List ℕ) → form_of (take 129 s) ≡ form_of s
form_front [] = refl
form_front (x ∷ s) = refl

long_alike : (s : List ℕ) → 129 ≤ length s → too_long (take 129 s) ≡ too_long s
long_alike s l =
    ap (λ (b : Bool). cond b None (Some (Malformed 128)))
    (lt-leb (length (take 129 s)) 128 (omega (arith, length-take-le 129 s l)) ∙ sym (lt-leb (length s) 128 (omega arith)))

judged_alike : (ns : List Need) (s : List ℕ) → 129 ≤ length s → judged ns (take 129 s) ≡ judged ns s
judged_alike ns s l =
    ap (λ (t : List ℕ). elim (reading asked ns 0 t) [ Some f ↦ Some f | None ↦ too_long (take 129 s) ]) (take-take 128 129 s (omega arith))
    ∙ ap (λ (o : Option TextFault). elim (reading asked ns 0 (take 128 s)) [ Some f ↦ Some f | None ↦ o ]) (long_alike s l)

module _ {B R : Type 0} (over : R → Rule) (here : Installation B R) where
  long_answered : (s : List ℕ) (a : Result (Unit {0}) ScriptFault) (next : Installation B R) → 129 ≤ length s → Answered over here (take 129 s) a next → Answered over here s a next
  long_answered s a next l (unread {f = f} (inl e)) =
      unread (inl (subst (λ (ns : List Need). judged ns s ≡ Some f) (form_front s) (sym (judged_alike (form_of (take 129 s)) s l) ∙ e)))
  long_answered s a next l (unread (inr (ps, c, cs, w, u, q))) = absurd (let k : length (take 129 s) ≤ 128 = w.short in omega (arith, length-take-le 129 s l))
  long_answered s a next l (carried b (ps, o, q) r) = absurd (let k : length (take 129 s) ≤ 128 = o.whole.short in omega (arith, length-take-le 129 s l))

  pub front_answered : (s line : List ℕ) (a : Result (Unit {0}) ScriptFault) (next : Installation B R) → take 129 s ≡ line → Answered over here line a next → Answered over here s a next
  front_answered s line a next e r =
      elim (cases_lt 128 (length s)) [
        | inl l ↦ long_answered s a next (omega arith) (subst (λ (t : List ℕ). Answered over here t a next) (sym e) r)
        | inr l ↦ subst (λ (t : List ℕ). Answered over here t a next) (sym e ∙ take_all 129 s (omega arith)) r
      ]
