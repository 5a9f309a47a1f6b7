-- Bits of a number: of a power of two, of two numbers put together, and of what one has beyond another.
use Rattle.std.proofs.Common.{◌≡◌, ◌≢◌, ℕ, zero, suc, ◌+◌, ◌-◌, ◌/◌, ◌%◌, ◌^◌, ◌<◌, Bool, true, false, not, ◌&&◌, ◌||◌, eqb, bit_and, bit_or, bit_xor, sym, refl, ap, ◌∙◌, subst, arith}
use mir.Val.{bits}
use Rattle.std.specs.Int.{Width, w64, bit_at, bit_not}
use Rattle.std.specs.Int.Count.{count_trailing_zeros}
use Rattle.std.proofs.lemmas.Nat.Bits.{bit_at-zero, bit_at-lt, bit_at-pow_same, bit_at-pow_other, bit_at_or, bit_at_xor, bit_at_and, bit_at_not, bit_at-trailing_zeros}
use Rattle.std.proofs.lemmas.Nat.{and_le_l}
use Rattle.std.proofs.lemmas.Bool.{and_right, false≢true}
use Rattle.std.proofs.lemmas.Bool.Decides.{nat_tests}
use Rattle.edges.specs.Edges.{edge, is_role}
use Rattle.edge_sets.specs.EdgeSets.{Edges, has}
use Rattle.edge_sets.specs.BitRows.{bit, Row, has_role, role_word, is_beyond, LowestBeyond}

-- a power of two has one bit
pub pow_same : (k : ℕ) → 2 ^ k / 2 ^ k % 2 ≡ 1
pow_same = bit_at-pow_same

pub pow_other : (j k : ℕ) → j ≢ k → 2 ^ k / 2 ^ j % 2 ≡ 0
pow_other j k = bit_at-pow_other k j

pub pow_under : (j k : ℕ) → k < j → 2 ^ k / 2 ^ j % 2 ≡ 0
pow_under j k l = pow_other j k (λ e. omega arith)

pub bit_one : (k j : ℕ) → bit (2 ^ k) j ≡ eqb j k
bit_one k j = grind (arith, nat_tests, bit_at-pow_same k, bit_at-pow_other k j)

pub bit_none : (j : ℕ) → bit 0 j ≡ false
bit_none j = grind (arith, nat_tests, bit_at-zero j)

-- two numbers put together
pub bit_of_or : (a b j : ℕ) → bit (bit_or a b) j ≡ (bit a j || bit b j)
bit_of_or a b j = grind (arith, nat_tests, bit_at_or a b j, bit_at-lt a j, bit_at-lt b j)

-- two numbers compared
pub bit_of_xor : (a b j : ℕ) → bit (bit_xor a b) j ≡ true → (bit b j ≡ true → bit a j ≡ true) → (bit a j ≡ true) × (bit b j ≡ false)
bit_of_xor a b j h s = by (bit_at a j) (bit_at b j) (bit_at-lt a j) (bit_at-lt b j) (sym (ap (λ (n : ℕ). eqb n 1) (bit_at_xor a b j)) ∙ h) s
  where
    by : (p q : ℕ) → p < 2 → q < 2 → eqb ((p + q) % 2) 1 ≡ true → (eqb q 1 ≡ true → eqb p 1 ≡ true) → (eqb p 1 ≡ true) × (eqb q 1 ≡ false)
    by zero zero h k d s = absurd (false≢true d)
    by zero (suc zero) h k d s = absurd (false≢true (s refl))
    by (suc zero) zero h k d s = (refl, refl)
    by (suc zero) (suc zero) h k d s = absurd (false≢true d)
    by zero (suc (suc q)) h k d s = absurd (omega arith)
    by (suc zero) (suc (suc q)) h k d s = absurd (omega arith)
    by (suc (suc p)) q h k d s = absurd (omega arith)

-- what a number has beyond another, in the bits of a width
pub bit_beyond : (w : Width) (a b j : ℕ) → b < 2 ^ bits w → j < bits w → bit (bit_and a (bit_not w b)) j ≡ (bit a j && not (bit b j))
bit_beyond w a b j h l = grind (arith, nat_tests, bit_at_and a (bit_not w b) j, bit_at_not w b j h l, bit_at-lt a j, bit_at-lt b j)

-- a role, by its bit
pub place_of : (v : ℕ) → is_role v ≡ true → (v - 64 < 64) × (64 + (v - 64) ≡ v)
place_of v r = (grind (arith, nat_tests), grind (arith, nat_tests))

pub at_place : (w k : ℕ) → k < 64 → has_role w (64 + k) ≡ bit w k
at_place w k l = let e : 64 + k - 64 ≡ k = omega arith in grind (arith, nat_tests, ap (bit w) e)

-- sets of roles: none, one, two sets together
pub has_none : (v : ℕ) → has_role 0 v ≡ false
has_none v = and_right (is_role v) (bit 0 (v - 64)) (bit_none (v - 64))

pub has_one : (v x : ℕ) → is_role v ≡ true → has_role (role_word v) x ≡ eqb x v
has_one v x r =
    let one : role_word v ≡ 2 ^ (v - 64) = rw r in
    let b : bit (role_word v) (x - 64) ≡ eqb (x - 64) (v - 64) = ap (λ (n : ℕ). bit n (x - 64)) one ∙ bit_one (v - 64) (x - 64) in
    grind (arith, nat_tests, b)

pub has_or : (a b v : ℕ) → has_role (bit_or a b) v ≡ (has_role a v || has_role b v)
has_or a b v = grind (arith, nat_tests, bit_of_or a b (v - 64))

-- a set and one more role
pub has_with : (w v x : ℕ) → is_role v ≡ true → has_role (bit_or w (role_word v)) x ≡ (has_role w x || eqb x v)
has_with w v x r = has_or w (role_word v) x ∙ ap (λ (b : Bool). has_role w x || b) (has_one v x r)

-- the roles of a row
pub has_row : (s : Edges) (from w : ℕ) → Row s from w → (v : ℕ) → is_role v ≡ true → has_role w v ≡ has s (edge from v)
has_row s from w row v r =
    let p = place_of v r in
    subst (λ (x : ℕ). has_role w x ≡ has s (edge from x)) p.1 (at_place w (v - 64) p.0 ∙ row (v - 64) p.0)

-- what one set has beyond another
role_beyond : (a b v : ℕ) → b < 2 ^ 64 → is_beyond a b v ≡ has_role (bit_and a (bit_not w64 b)) v
role_beyond a b v h = grind (arith, nat_tests, bit_beyond w64 a b (v - 64) h)

pub none_beyond : (a b : ℕ) → b < 2 ^ 64 → bit_and a (bit_not w64 b) ≡ 0 → (v : ℕ) → is_beyond a b v ≡ false
none_beyond a b h q v = role_beyond a b v h ∙ ap (λ (n : ℕ). has_role n v) q ∙ has_none v

module _ (a b : ℕ) (g : a < 2 ^ 64) (h : b < 2 ^ 64) (q : bit_and a (bit_not w64 b) ≢ 0) where
  least : LowestBeyond a b (64 + count_trailing_zeros 64 (bit_and a (bit_not w64 b)))
  least = by _ (bit_at-trailing_zeros w64 n (omega arith) (omega (arith, and_le_l a (bit_not w64 b))))
    where
      n : ℕ
      n = bit_and a (bit_not w64 b)

      by : (t : ℕ) → (t < 64) × (bit_at n t ≡ 1) × ((i : ℕ) → i < t → bit_at n i ≡ 0) → LowestBeyond a b (64 + t)
      by t (l, here, before) = (
        let e : 64 + t - 64 ≡ t = omega arith in role_beyond a b (64 + t) h ∙ grind (arith, nat_tests, here, ap (bit n) e),
        λ x m. role_beyond a b x h ∙ grind (arith, nat_tests, before (x - 64)),
      )

  pub one_beyond : is_beyond a b (64 + count_trailing_zeros 64 (bit_and a (bit_not w64 b))) ≡ true
  one_beyond = least.0

  pub lowest_beyond : (x : ℕ) → x < 64 + count_trailing_zeros 64 (bit_and a (bit_not w64 b)) → is_beyond a b x ≡ false
  lowest_beyond = least.1

-- what `beyond` tells
pub ruleset beyond_tells = (none_beyond, one_beyond, lowest_beyond)
