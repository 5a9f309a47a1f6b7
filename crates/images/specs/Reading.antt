-- Reading runs: one after another, or from a place that is found by halving.
use Rattle.std.specs.Prelude.{◌≡◌, ℕ, suc, ◌-◌, ◌*◌, min, max, ◌<◌, ◌≤◌, List, length, slice_index_or}
use Rattle.edge_sets.specs.BitRows.{Row}
use Rattle.image_format.specs.declared.runs.Run.{Run}
use Rattle.image_format.specs.Runs.{run, edges_of, end, front}
use Rattle.image_format.specs.Images.{runs_in}
use Rattle.images.specs.declared.runs.Runs.{Runs}

-- the runs that are still to come, the longest front that fits
abbrev pub ahead : Runs → List Run
ahead at = front at.least at.room (runs_in at.rest.now)

-- what is read past the last run
abbrev pub no_run : Run
no_run = run 0 0

-- the run in front of place i ends at a cell or before it, and the one there ends behind it
pub record Beyond (c : ℕ) (rs : List Run) (i : ℕ) : Type 0 where
  pub within : i ≤ length rs
  pub front : (j : ℕ) → i ≡ suc j → end (slice_index_or rs j no_run) ≤ c
  pub back : i < length rs → c < end (slice_index_or rs i no_run)

-- the first role to which an edge from the vertex has a cell not below c; 128 where there is none
unfoldable pub role_from : ℕ → ℕ → ℕ
role_from from c = min (max (c - from * 256) 64) 128

-- w has the roles that a vertex has an edge to in a run; a record, so that lemmas find it among the facts
pub record RowOf (r : Run) (from w : ℕ) : Type 0 where
  pub tells : Row (edges_of r) from w
