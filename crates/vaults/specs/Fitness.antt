-- Which banks an installation works with.
use Rattle.std.specs.Prelude.{◌≡◌, ℕ, ◌<◌, ◌≤◌, List, length}
use Rattle.vaults.specs.Sites.{Site, site_at}

-- empty, and with limits that a vault may have
pub record IsFitSite (x : Site) : Type 0 where
  pub nothing_waits : length x.waiting ≡ 0
  pub nothing_held : length x.table ≡ 0
  pub store_least : 1 ≤ x.store_limit
  pub store_most : x.store_limit ≤ 512
  pub link_least : 2 ≤ x.link_limit
  pub link_most : x.link_limit ≤ 1024

pub record IsFit (xs : List Site) : Type 0 where
  pub some : 1 ≤ length xs
  pub few : length xs ≤ 8
  pub each : (v : ℕ) → v < length xs → IsFitSite (site_at xs v)
