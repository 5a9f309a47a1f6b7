use Rattle.images.proofs.Places.{spanned_more, spanned_ends}
use Rattle.images.proofs.image.row_of.Goals as goal

pub loop-role-preserved : goal.loop-role-preserved
loop-role-preserved c = rw c.with-row.ensures (spanned_more _ _ _ _ c.loop-role.invariant c.loop-role.auto.role c.loop-role-test.true)

pub returns : goal.returns
returns c = spanned_ends _ _ c.args.from c.args.run (cc) (cc) _ _ c.loop-role.invariant c.loop-role-test.false
