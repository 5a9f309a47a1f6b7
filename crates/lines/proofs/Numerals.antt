-- Reading a number.
use Rattle.std.proofs.Common.{◌≡◌, ℕ, suc, ◌+◌, ◌-◌, ◌*◌, Bool, true, false, ◌&&◌, if◌then◌else◌, eqb, List, [], ◌∷◌, ◌++◌, length, Some, Option, sym, refl, ap, ◌∙◌, arith}
use Rattle.std.proofs.lemmas.Bool.{cond-true, cond-false, and_parts, false≢true, eqb-true}
use Rattle.std.proofs.lemmas.Bool.Decides.{nat_tests}
use Rattle.lines.specs.declared.fault.TextFault.{TextFault}
use Rattle.lines.specs.declared.fault.TextFault.TheVariants.{OutOfRange}
use Rattle.lines.specs.declared.letters.Letter.{Letter}
use Rattle.lines.specs.declared.letters.Letter.TheVariants.{User, Role, Privilege, Vault}
use Rattle.lines.specs.Spelling.{is_digit, told, all_digits, still, is_numeral}
use Rattle.lines.specs.Reading.{Need, a_number, more_digits, Ranges, asked, ignored, in_range, Step, stop, step, going, reading}

-- what comes of a number
abbrev pub counted : Ranges → Letter → ℕ → ℕ → Option TextFault → Option TextFault
counted r l k n v = if in_range r l n then v else Some (OutOfRange k)

-- the number is over where no digit comes next
pub over_at : (r : Ranges) (l : Letter) (k n : ℕ) (st : List Need) (c : ℕ) (s : List ℕ) → still s ≡ true
    → reading r (more_digits l k n ∷ st) c s ≡ counted r l k n (reading r st c s)
over_at r l k n st c [] h = refl
over_at r l k n st c (x ∷ s) h =
    let no : is_digit x ≡ false = grind (arith, nat_tests, h) in
    let go : List Need → Option TextFault = λ next. reading r next (suc c) s in
    ap (λ (t : Step). going t go) (cond-false _ _ _ no) ∙ by (in_range r l n) (step r st c x) go
  where
    by : (b : Bool) (t : Step) (go : List Need → Option TextFault) → going (if b then t else stop (OutOfRange k)) go ≡ (if b then going t go else Some (OutOfRange k))
    by true t go = refl
    by false t go = refl

-- digits after n was told
pub more_at : (r : Ranges) (l : Letter) (k n : ℕ) (st : List Need) (c : ℕ) (ds s : List ℕ) → all_digits ds ≡ true → still s ≡ true
    → reading r (more_digits l k n ∷ st) c (ds ++ s) ≡ counted r l k (told n ds) (reading r st (c + length ds) s)
more_at r l k n st c [] s d h = over_at r l k n st c s h ∙ ap (λ (i : ℕ). counted r l k n (reading r st i s)) (omega arith)
more_at r l k n st c (x ∷ ds) s d h =
    let (y, more) = and_parts (is_digit x) (all_digits ds) d in
    ap (λ (t : Step). going t (λ next. reading r next (suc c) (ds ++ s))) (cond-true _ _ _ y) ∙ more_at r l k (n * 10 + (x - 48)) st (suc c) ds s more h
    ∙ ap (λ (i : ℕ). counted r l k (told (n * 10 + (x - 48)) ds) (reading r st i s)) (omega arith)

-- a whole number; 0 is in range of every letter
pub zero_ranges : (r : Ranges) (l : Letter) → in_range r l 0 ≡ true
zero_ranges ignored l = refl
zero_ranges asked User = refl
zero_ranges asked Role = refl
zero_ranges asked Privilege = refl
zero_ranges asked Vault = refl

pub number_at : (r : Ranges) (l : Letter) (k : ℕ) (st : List Need) (c : ℕ) (ds s : List ℕ) → is_numeral ds ≡ true → still s ≡ true
    → reading r (a_number l k ∷ st) c (ds ++ s) ≡ counted r l k (told 0 ds) (reading r st (c + length ds) s)
number_at r l k st c [] s d h = absurd (false≢true d)
number_at r l k st c (x ∷ ds) s d h = by (eqb x 48) refl d
  where
    go : List Need → Option TextFault
    go next = reading r next (suc c) (ds ++ s)

    alone : (ds : List ℕ) → eqb (length ds) 0 ≡ true → ds ≡ []
    alone [] e = refl
    alone (y ∷ ds) e = let z : suc (length ds) ≡ 0 = eqb-true (suc (length ds)) 0 e in absurd (omega arith)

    none : eqb x 48 ≡ true → (ds : List ℕ) → ds ≡ [] → reading r st (suc c) (ds ++ s) ≡ counted r l k (told 0 (x ∷ ds)) (reading r st (c + length (x ∷ ds)) s)
    none e [] q =
        let is : 0 * 10 + (x - 48) ≡ 0 = let z = eqb-true x 48 e in omega arith in
        ap (λ (i : ℕ). reading r st i s) (omega arith)
        ∙ sym (cond-true _ _ _ (ap (in_range r l) is ∙ zero_ranges r l))
    none e (y ∷ ds) q = absurd (omega (arith, ap length q))

    by : (b : Bool) → eqb x 48 ≡ b → (if b then (eqb (length ds) 0) else (is_digit x && all_digits ds)) ≡ true
        → reading r (a_number l k ∷ st) c ((x ∷ ds) ++ s) ≡ counted r l k (told 0 (x ∷ ds)) (reading r st (c + length (x ∷ ds)) s)
    by true e d = ap (λ (t : Step). going t go) (cond-true _ _ _ e) ∙ none e ds (alone ds d)
    by false e d =
        let (y, more) = and_parts (is_digit x) (all_digits ds) d in
        ap (λ (t : Step). going t go) (cond-false _ _ _ e ∙ cond-true _ _ _ y) ∙ more_at r l k (0 * 10 + (x - 48)) st (suc c) ds s more h
        ∙ ap (λ (i : ℕ). counted r l k (told (0 * 10 + (x - 48)) ds) (reading r st i s)) (omega arith)
