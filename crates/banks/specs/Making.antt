-- What a bank is that was made with a limit for every link and one for every store.
use Rattle.std.specs.Prelude.{ℕ, []}
use Rattle.links.specs.Links.{link_limit}
use Rattle.stores.specs.Stores.{store_limit}
use Rattle.vaults.specs.Sites.{Site}

-- an empty vault with these limits; a limit that none may have is 0
abbrev pub empty_site : ℕ → ℕ → Site
empty_site link store = record { waiting = []; link_limit = link_limit link; table = []; store_limit = store_limit store }
