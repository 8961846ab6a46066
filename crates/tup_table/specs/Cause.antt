-- Why a table's call is refused (own). The outside's own failures are counted, so that nobody else can claim one.
use Rattle.std.specs.Prelude.{◌≡◌, ◌⊎◌, ℕ, Result}
use Rattle.std.specs.Result.{IfErr}
use Rattle.tup_site.specs.Cause.{Counts}
use Rattle.tup_site.specs.declared.fault.SiteFailed.{SiteFailed}
use Rattle.tup_site.specs.declared.fault.SiteFailed.TheVariants.{Fault, TooLarge, Memory as SiteMemory}
use Rattle.tup_table.specs.declared.fault.TableFault.{TableFault}
use Rattle.tup_table.specs.declared.fault.TableFault.TheVariants.{Site, Memory}

-- how a refusal of the site is told
abbrev pub fault_of : SiteFailed → TableFault
fault_of Fault = Site
fault_of (TooLarge n) = Site
fault_of SiteMemory = Memory

-- the site's count rises with each `Site`, and at no other answer
abbrev pub CountsFaults : {T : Type 0} → ℕ → ℕ → Result T TableFault → Type 0
CountsFaults before now result = Counts Site before now result

-- a failure of the site, or want of memory
abbrev pub IsOutside : TableFault → Type 0
IsOutside fault = (fault ≡ Site) ⊎ (fault ≡ Memory)

-- nothing else refuses
abbrev pub OnlyOutside : {T : Type 0} → Result T TableFault → Type 0
OnlyOutside result = IfErr result IsOutside
