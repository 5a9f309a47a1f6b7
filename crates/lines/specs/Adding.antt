-- Writing behind what is written.
use Rattle.std.specs.Prelude.{◌≡◌, ℕ, ◌+◌, ◌≤◌, List, ◌++◌, length}

-- where there is room, the text stands behind the others
abbrev pub Adds : List ℕ → List ℕ → List ℕ → Type 0
Adds before text after = length before + length text ≤ 128 → after ≡ before ++ text
