use Rattle.std.proofs.Common.{◌+◌, ◌%◌, ◌^◌, List, [], ◌∷◌, ◌++◌, ℕ, sym, ap, ◌∙◌}
use Rattle.vaults.specs.Sites.{Site}
use Rattle.banks.specs.Making.{empty_site}
use Rattle.banks.proofs.Turns.{one_more, replicate_more}
use Rattle.banks.proofs.growing.grown.Goals as goal

pub loop-place-preserved : goal.loop-place-preserved
loop-place-preserved g c = (
  c.in_ok-grow.ensures.sites
      ∙ (ap (λ (xs : List Site). xs ++ (empty_site c.args.link c.args.store ∷ [])) c.loop-place.invariant.0
      ∙ sym (replicate_more c.loop-place.place (empty_site c.args.link c.args.store))),
  c.in_ok-grow.ensures.make
      ∙ (ap (λ (ms : List ℕ). ms ++ ((c.args.turn + c.loop-place.place) % 2 ^ 64 % g.B.GrowingBank.count ∷ [])) c.loop-place.invariant.1
      ∙ sym (one_more g.B.GrowingBank.count c.args.turn c.loop-place.place)),
)
