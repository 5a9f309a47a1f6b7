-- How full a site is.
use Rattle.std.specs.Prelude.{length}
use Rattle.vaults.specs.declared.bank.Load.{Load}
use Rattle.vaults.specs.Sites.{Site}

abbrev pub load_of : Site → Load
load_of x = record { waiting = length x.waiting; link_limit = x.link_limit; held = length x.table; store_limit = x.store_limit }
