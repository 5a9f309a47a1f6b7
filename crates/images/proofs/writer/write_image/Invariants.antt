use Rattle.std.proofs.Common.{◌≡◌, ◌≤◌, length}
use Rattle.images.proofs.Drafts.{Walk}
use Rattle.images.proofs.writer.write_image.Given as goal

abbrev pub invariant-loop-cell : goal.invariant-loop-cell
invariant-loop-cell g l = record {
  walk : Walk (g.R.Reader.edges l.table) l.initial.draft.out.now l.cell l.draft.runs l.draft.pending l.draft.out.now;
  wide : 2050 ≤ length l.draft.out.now;
  same_reference : l.draft.out.ghost_name ≡ l.initial.draft.out.ghost_name;
}
