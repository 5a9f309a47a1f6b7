use Rattle.std.proofs.Common.{◌≡◌, ℕ, ◌+◌, ◌-◌, ◌*◌, ◌≤◌, List, length, vec_items, refl, ap, sym, subst, ◌∙◌, ⊎_elim, arith}
use borrow.Rule.Slice.PartMut.{put_mid}
use Rattle.std.specs.Vec.{with_items}
use Rattle.std.proofs.lemmas.List.{with_items_is}
use Rattle.std.proofs.lemmas.Bool.{both_ways}
use Rattle.queues.specs.Frames.{framed, FrameAt}
use Rattle.queues.proofs.Strips.{framed_here, framed_else, framed_length, frame_there}
use Rattle.queues.proofs.strip.Strip.set_frame.Goals as goal

pub returns-clause-frame : goal.returns-clause-frame
returns-clause-frame c =
    let s = c.args.self.now.strip in
    let xs = c.deref_mut.result.now in
    let out = c.write_frame.new.out in
    let at = c.args.place in
    let k = length xs - 3 * at in
    let is = c.write_frame.ensures in
    let fits : 3 * at + 3 ≤ length xs = omega (arith, c.deref_mut.ensures.len, c.args.self.now.long, c.requires.within) in
    let ys = put_mid (3 * at) k xs out in
    let now : vec_items (with_items s ys) ≡ ys = with_items_is s ys (framed_length xs out at k refl fits c.args.message is ∙ c.deref_mut.ensures.len) in
    subst (λ (l : List ℕ). FrameAt l at c.args.message) (sym now) (frame_there xs out at k refl fits c.args.message is)

pub returns-clause-stored : goal.returns-clause-stored
returns-clause-stored c =
    let s = c.args.self.now.strip in
    let xs = c.deref_mut.result.now in
    let out = c.write_frame.new.out in
    let at = c.args.place in
    let k = length xs - 3 * at in
    let is = c.write_frame.ensures in
    let same : xs ≡ vec_items s = c.deref_mut.ensures.value in
    let fits : 3 * at + 3 ≤ length xs = omega (arith, c.deref_mut.ensures.len, c.args.self.now.long, c.requires.within) in
    let ys = put_mid (3 * at) k xs out in
    let now : vec_items (with_items s ys) ≡ ys = with_items_is s ys (framed_length xs out at k refl fits c.args.message is ∙ c.deref_mut.ensures.len) in
    record {
      here = λ _ _. ap (λ (l : List ℕ). framed l at) now ∙ framed_here xs out at k refl fits c.args.message is;
      kept = λ h. ⊎_elim (λ l. absurd (omega (arith, c.requires.within, l))) (λ q. absurd (both_ways _ q c.requires.vault)) h;
      others = λ i ne. ap (λ (l : List ℕ). framed l i) now ∙ framed_else xs out at k refl fits c.args.message is i ne ∙ ap (λ (l : List ℕ). framed l i) same;
    }
