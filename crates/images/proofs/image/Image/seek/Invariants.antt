use Rattle.std.proofs.Common.{◌≡◌, ℕ, suc, ◌-◌, ◌<◌, ◌≤◌, length, get_or}
use Rattle.image_format.specs.Runs.{end}
use Rattle.image_format.specs.Images.{taken}
use Rattle.images.specs.Reading.{no_run}
use Rattle.images.proofs.image.Image.seek.Given as goal

abbrev pub invariant-loop-low : goal.invariant-loop-low
invariant-loop-low l =
    (l.low ≤ l.high)
    × (l.high ≤ length (taken l.self.bytes.now))
    × ((j : ℕ) → l.low ≡ suc j → end (get_or (taken l.self.bytes.now) j no_run) ≤ l.cell)
    × (l.high < length (taken l.self.bytes.now) → l.cell < end (get_or (taken l.self.bytes.now) l.high no_run))

abbrev pub decreases-loop-low : goal.decreases-loop-low
decreases-loop-low l = l.high - l.low
