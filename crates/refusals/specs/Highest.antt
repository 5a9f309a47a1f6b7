-- How refusals are numbered.
use Rattle.std.specs.Prelude.{ℕ}

-- no refusal has a higher number: with 100 added each is still of three digits, which is how a host in C is told
abbrev pub highest : ℕ
highest = 99
