use Rattle.std.proofs.Common.{◌≡◌, ℕ, ◌*◌, ◌/◌, ◌%◌, ◌^◌, ◌<◌, not, List, length, get_or, set, ap, ◌∙◌, arith}
use lib.Bits.{bit_xor}
use Rattle.std.proofs.lemmas.Nat.{one_shl}
use Rattle.std.proofs.lemmas.List.{get_or_default}
use Rattle.rows.specs.Flags.{bit_at}
use Rattle.rows.proofs.Turns.{turn_here, turn_other}
use Rattle.rows.proofs.words.Words.turn.Goals as goal

pub returns : goal.returns
returns c =
    let ws = c.self.inside.words.items in
    let k = c.args.cell in
    let n : k / 64 < length ws = omega (arith, c.self.inside.words.ok.0, c.self.invariant, c.requires) in
    let s : (1 * 2 ^ (k % 64)) % 2 ^ 64 ≡ 2 ^ (k % 64) = one_shl (k % 64) 64 (omega arith) in
    let w : c.index_mut.result.now ≡ get_or ws (k / 64) 0 = c.index_mut.ensures.value ∙ get_or_default ws (k / 64) _ 0 n in
    record {
      here =
          ap (λ (m : ℕ). bit_at (set ws (k / 64) (bit_xor c.index_mut.result.now m)) k) s ∙ turn_here ws k c.index_mut.result.now n w
          ∙ ap (λ (us : List ℕ). not (bit_at us k)) c.self.view_is;
      others = λ j ne.
          ap (λ (m : ℕ). bit_at (set ws (k / 64) (bit_xor c.index_mut.result.now m)) j) s ∙ turn_other ws k c.index_mut.result.now n w j ne
          ∙ ap (λ (us : List ℕ). bit_at us j) c.self.view_is;
    }
