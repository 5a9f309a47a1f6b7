use Rattle.std.proofs.Common.{rules, ◌≡◌, ℕ, Bool, sym, refl, ap, ◌∙◌, arith}
use Rattle.edges.specs.declared.edges.Edge.{Edge}
use Rattle.edge_sets.specs.EdgeSets.{Edges, has}
use Rattle.edge_sets.specs.Cells.{edge_at}
use Rattle.images.proofs.Drafts.{walk_starts, walk_room, walk_holds, walk_lacks, walk_ends}
use Rattle.images.proofs.writer.write_image.Goals as goal
use Rattle.images.proofs.writer.write_image.Goals.{then-holds, else-holds}

pub loop-cell-init : goal.loop-cell-init
loop-cell-init g c = record {
  walk = walk_starts _ (g.met.R.Reader.table c.args.table.now) _ c.requires;
  wide = c.requires;
  same_reference = refl;
}

pub close-requires-clause-few : goal.close-requires-clause-few
close-requires-clause-few g c = walk_room _ (g.met.R.Reader.table c.args.table.now) _ c.requires _ _ _ _ c.loop-cell.invariant.walk

-- what the table says of the edge of a cell
told : (s : Edges) (e : Edge) (c d : ℕ) (b : Bool) → d ≡ c → e ≡ edge_at d → b ≡ has s e → has s (edge_at c) ≡ b
told s e c d b same is h = sym (h ∙ ap (has s) (is ∙ ap edge_at same))

pub loop-cell-preserved : goal.loop-cell-preserved
loop-cell-preserved g c =
    let s = g.R.Reader.edges c.args.table.now in
    let t = g.met.R.Reader.table c.args.table.now in
    let d = c.loop-cell.draft in
    let i = c.loop-cell.invariant in
    elim c.if-holds.branch [
      | then-holds w ↦
          let here = told s c.edge_at.result c.loop-cell.cell c.from.result _ c.from.ensures c.edge_at.ensures w.if-holds.ensures in
          let e = w.push.ensures in
          rw w.draft-is
          (record {
            walk = rw (e.same_bytes, e.same_runs, e.longer) (walk_holds s t c.args.out.now c.requires c.loop-cell.cell d.runs d.out.now d.pending i.walk here);
            wide = rw e.same_bytes i.wide;
            same_reference = e.same_reference ∙ i.same_reference;
          })
      | else-holds w ↦
          let gone = told s c.edge_at.result c.loop-cell.cell c.from.result _ c.from.ensures c.edge_at.ensures w.if-holds.ensures in
          let e = w.close.ensures in
          rw w.draft-is
          (record {
            walk = rw e.none (walk_lacks s t c.args.out.now c.requires c.loop-cell.cell d.runs d.out.now w.close.new.self.runs w.close.new.self.out.now d.pending i.walk gone e.closed);
            wide = rw e.same_length i.wide;
            same_reference = e.same_reference ∙ i.same_reference;
          })
    ]

pub close-requires-2-clause-few : goal.close-requires-2-clause-few
close-requires-2-clause-few g c = walk_room _ (g.met.R.Reader.table c.args.table.now) _ c.requires _ _ _ _ c.loop-cell.invariant.walk

pub returns : goal.returns
returns g c =
    let d = c.loop-cell.draft in
    let u = c.close-2.new.self in
    walk_ends (g.R.Reader.edges c.args.table.now) (g.met.R.Reader.table c.args.table.now) c.args.out.now c.requires c.loop-cell.cell d.runs d.out.now u.runs u.out.now d.pending c.finish.result _
    (omega arith) c.loop-cell.invariant.walk c.close-2.ensures.closed c.finish.ensures.long (search rules)
