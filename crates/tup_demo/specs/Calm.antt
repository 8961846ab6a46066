-- What a steady site keeps true of the site in memory that it owns, so that none of its calls fails. Own.
use Rattle.std.specs.Prelude.{◌≡◌, ◌≤◌, List, [], length, None, IsTrue}
use Rattle.std.proofs.Props.{props}
use Rattle.std.specs.Coded.{Coded-set, coded_bool, coded_ℕ, coded_list, coded_option}
use Rattle.tup_path.specs.Name.{Content}
use Rattle.tup_site.specs.Known.{Keeps}
use Rattle.tup_site.specs.Memory.{fails_of, left_of, store_in}
use Rattle.tup_site.specs.declared.memory.MemSite.{MemSite}

-- no call is listed to fail, and the site isn't stopped
pub record IsCalm (site : MemSite) : Type 0 where
  pub fails : fails_of site ≡ []
  pub left : left_of site ≡ None

-- the store is no longer than there is room for
abbrev pub HasSmallStore : MemSite → Type 0
HasSmallStore site = length (store_in site) ≤ 65536

pub IsCalm-prop : (site : MemSite) → IsProp (IsCalm site)
IsCalm-prop site =
    let numbers = Coded-set (coded_list coded_ℕ) in
    let number = Coded-set (coded_option coded_ℕ) in
    hlevel (props, numbers, number)

pub Keeps-prop : (old new : List Content) → IsProp (Keeps old new)
Keeps-prop old new = let bool = Coded-set coded_bool in hlevel (props, bool)

pub HasSmallStore-prop : (site : MemSite) → IsProp (HasSmallStore site)
HasSmallStore-prop site = hlevel props
