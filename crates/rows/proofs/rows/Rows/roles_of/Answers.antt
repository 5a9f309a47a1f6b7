use Rattle.std.proofs.Common.{ℕ, ◌+◌, ◌*◌, get_or, ap, ◌∙◌}
use Rattle.rows.proofs.Flagged.{role_flags, no_role_flags}
use Rattle.rows.proofs.rows.Rows.roles_of.Goals as goal

pub returns-then-from-lt128 : goal.returns-then-from-lt128
returns-then-from-lt128 c =
    role_flags c.args.self.now.words c.args.from _ c.if-from-lt128.true
    (c.word.ensures ∙ ap (λ (i : ℕ). get_or c.args.self.now.words (i * 4 + 1) 0) c.from.ensures)

pub returns-else-from-lt128 : goal.returns-else-from-lt128
returns-else-from-lt128 c = rw c.none.ensures (no_role_flags c.args.self.now.words c.args.from c.args.self.now.vault c.if-from-lt128.false)
