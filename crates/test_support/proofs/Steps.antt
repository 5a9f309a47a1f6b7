-- A message that is performed at one site of a bank, and then struck there.
use Rattle.std.proofs.Common.{◌≡◌, ℕ, zero, suc, Bool, true, false, cond, ltb, List, [], ◌∷◌, length, Some, Ok, Err, Result, set, sym, refl, ap, ◌∙◌}
use Rattle.refusals.specs.declared.bank.BankFault.{BankFault}
use Rattle.refusals.specs.declared.bank.BankFault.TheVariants.{NoVault}
use Rattle.edges.specs.declared.edges.Change.{Change}
use Rattle.links.specs.Links.{first}
use Rattle.vaults.specs.Sites.{Site, site_at, alter, strike_at, asked}
use Rattle.test_support.specs.Delivery.{table_says, performed, first_done, delivered}

alter_twice : (f g : Site → Site) (v : ℕ) (xs : List Site) → alter v f (alter v g xs) ≡ alter v (λ x. f (g x)) xs
alter_twice f g v [] = refl
alter_twice f g zero (x ∷ xs) = refl
alter_twice f g (suc v) (x ∷ xs) = ap (λ (ys : List Site). x ∷ ys) (alter_twice f g v xs)

-- a site says what is answered, if that is no refusal
site_says : (says : Site → Result (Unit {0}) BankFault) (xs : List Site) (v : ℕ) → asked says xs v ≡ Ok tt → says (site_at xs v) ≡ Ok tt
site_says says xs v h = by (ltb v (length xs)) h
  where
    by : (b : Bool) → cond b (says (site_at xs v)) (Err NoVault) ≡ Ok tt → says (site_at xs v) ≡ Ok tt
    by true q = q
    by false q = cc

first_is : (ms : List Change) (x : Site) (m : Change) → first ms ≡ Some m → table_says m x ≡ Ok tt → first_done ms x ≡ strike_at (performed m x)
first_is [] x m h s = cc
first_is (n ∷ ms) x m h s = let q : n ≡ m = cc in rw (q, s)

-- ys is xs with the first message performed at v, and zs is ys with it struck
pub performed_and_struck : (xs ys zs : List Site) (v : ℕ) (m : Change) → first (site_at xs v).waiting ≡ Some m → asked (table_says m) xs v ≡ Ok tt
    → ys ≡ alter v (performed m) xs → zs ≡ alter v strike_at ys → zs ≡ alter v delivered xs
performed_and_struck xs ys zs v m f ok done struck =
    struck ∙ ap (λ (ws : List Site). alter v strike_at ws) done ∙ alter_twice strike_at (performed m) v xs
    ∙ sym (ap (λ (x : Site). set xs v x) (first_is (site_at xs v).waiting (site_at xs v) m f (site_says (table_says m) xs v ok)))
