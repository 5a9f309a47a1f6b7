-- Turning one bit of a word, and of a row of words.
use Rattle.std.proofs.Common.{◌≡◌, ℕ, zero, suc, ◌/◌, ◌%◌, ◌^◌, ◌<◌, not, eqb, List, length, get_or, set, sym, refl, ap, ◌∙◌, ⊎_elim, arith, get_or-set_other, get_or-set_same}
use lib.Bits.{bit_xor, xor_zero_r}
use Rattle.std.proofs.lemmas.Nat.{xor_shr, xor_mod}
use Rattle.std.proofs.lemmas.Bool.{cases_eq}
use Rattle.edge_sets.proofs.BitRows.{pow_same, pow_other}
use Rattle.rows.specs.Flags.{bit_at}

-- a bit of a word that one bit was turned in
turned : (x : ℕ) → x < 2 → eqb (bit_xor x 1) 1 ≡ not (eqb x 1)
turned zero h = refl
turned (suc zero) h = refl
turned (suc (suc n)) h = absurd (omega (arith, h))

xor_bit : (w k j : ℕ) → bit_xor w (2 ^ k) / 2 ^ j % 2 ≡ bit_xor (w / 2 ^ j % 2) (2 ^ k / 2 ^ j % 2)
xor_bit w k j = ap (λ (n : ℕ). n % 2) (xor_shr w (2 ^ k) j) ∙ xor_mod (w / 2 ^ j) (2 ^ k / 2 ^ j) 1

xor_same : (w k : ℕ) → eqb (bit_xor w (2 ^ k) / 2 ^ k % 2) 1 ≡ not (eqb (w / 2 ^ k % 2) 1)
xor_same w k =
    ap (λ (n : ℕ). eqb n 1) (xor_bit w k k ∙ ap (bit_xor (w / 2 ^ k % 2)) (pow_same k)) ∙ turned (w / 2 ^ k % 2) (omega arith)

xor_other : (w k j : ℕ) → (j ≡ k → ⊥) → bit_xor w (2 ^ k) / 2 ^ j % 2 ≡ w / 2 ^ j % 2
xor_other w k j ne = xor_bit w k j ∙ ap (bit_xor (w / 2 ^ j % 2)) (pow_other j k ne) ∙ xor_zero_r _

-- the words with the bit of cell c turned, where w is the word that it stands in
module _ (ws : List ℕ) (c w : ℕ) (within : c / 64 < length ws) (is : w ≡ get_or ws (c / 64) 0) where
  abbrev turn : List ℕ
  turn = set ws (c / 64) (bit_xor w (2 ^ (c % 64)))

  pub turn_here : bit_at turn c ≡ not (bit_at ws c)
  turn_here =
      ap (λ (n : ℕ). eqb (n / 2 ^ (c % 64) % 2) 1) (get_or-set_same ws (c / 64) (bit_xor w (2 ^ (c % 64))) 0 within)
      ∙ xor_same w (c % 64) ∙ ap (λ (n : ℕ). not (eqb (n / 2 ^ (c % 64) % 2) 1)) is

  pub turn_other : (j : ℕ) → (j ≡ c → ⊥) → bit_at turn j ≡ bit_at ws j
  turn_other j ne =
      ⊎_elim
      (λ q.
      let m : j % 64 ≡ c % 64 → ⊥ = λ r. ne (omega (arith, q, r)) in
      ap (λ (i : ℕ). eqb (get_or turn i 0 / 2 ^ (j % 64) % 2) 1) q
      ∙ ap (λ (n : ℕ). eqb (n / 2 ^ (j % 64) % 2) 1) (get_or-set_same ws (c / 64) (bit_xor w (2 ^ (c % 64))) 0 within)
      ∙ ap (λ (n : ℕ). eqb n 1) (xor_other w (c % 64) (j % 64) m)
      ∙ ap (λ (n : ℕ). eqb (n / 2 ^ (j % 64) % 2) 1) (is ∙ ap (λ (i : ℕ). get_or ws i 0) (sym q)))
      (λ q. ap (λ (n : ℕ). eqb (n / 2 ^ (j % 64) % 2) 1) (get_or-set_other ws (c / 64) (j / 64) (bit_xor w (2 ^ (c % 64))) 0 q))
      (cases_eq (j / 64) (c / 64))
