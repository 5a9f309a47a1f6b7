-- The limits that something may be made with.
use Rattle.std.specs.Prelude.{ℕ, Bool, ◌&&◌, if◌then◌else◌, nat_le}
use Rattle.edges.specs.declared.limit_range.LimitRange.{LimitRange}

abbrev pub is_limit : LimitRange → ℕ → Bool
is_limit l n = nat_le l.least n && nat_le n l.most

-- the limit of what is made with n: any other number gives one of 0
abbrev pub limit_of : LimitRange → ℕ → ℕ
limit_of l n = if is_limit l n then n else 0
