use Rattle.images.proofs.Places.{Spanned}
use Rattle.images.proofs.image.row_of.Given as goal

abbrev pub invariant-loop-role : goal.invariant-loop-role
invariant-loop-role l = Spanned l.initial.role l.role-end l.row.word l.role
