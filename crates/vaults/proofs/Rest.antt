-- A vault above 0 is a vault of the rest, its number one less.
use Rattle.std.proofs.Common.{◌≡◌, ℕ, zero, suc, ◌-◌, ◌<◌, Bool, cond, ltb, List, ◌∷◌, length, Err, Result, ap, ◌∙◌, arith}
use Rattle.std.proofs.lemmas.Bool.Decides.{nat_tests}
use Rattle.refusals.specs.declared.bank.BankFault.{BankFault}
use Rattle.refusals.specs.declared.bank.BankFault.TheVariants.{NoVault}
use Rattle.vaults.specs.Sites.{Site, site_at, alter, asked}

less_one : (v : ℕ) → suc v - 1 ≡ v
less_one v = omega arith

ltb_suc : (m n : ℕ) → ltb m n ≡ ltb (suc m) (suc n)
ltb_suc m n = grind (arith, nat_tests)

pub alter_rest : (v : ℕ) (f : Site → Site) (x : Site) (xs ys : List Site) → 0 < v → ys ≡ alter (v - 1) f xs → x ∷ ys ≡ alter v f (x ∷ xs)
alter_rest zero f x xs ys h e = absurd (omega arith)
alter_rest (suc v) f x xs ys h e = ap (λ (zs : List Site). x ∷ zs) (e ∙ ap (λ (k : ℕ). alter k f xs) (less_one v))

pub asked_rest : (v : ℕ) (f : Site → Result (Unit {0}) BankFault) (x : Site) (xs : List Site) (r : Result (Unit {0}) BankFault) → 0 < v
    → r ≡ asked f xs (v - 1) → r ≡ asked f (x ∷ xs) v
asked_rest zero f x xs r h e = absurd (omega arith)
asked_rest (suc v) f x xs r h e =
    e ∙ ap (λ (k : ℕ). asked f xs k) (less_one v) ∙ ap (λ (b : Bool). cond b (f (site_at xs v)) (Err NoVault)) (ltb_suc v (length xs))
