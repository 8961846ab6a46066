-- Why a clearing is refused (own).
use Rattle.std.specs.Prelude.{◌≡◌, ◌⊎◌, ℕ, Result}
use Rattle.std.specs.Result.{IfErr}
use Rattle.tup_site.specs.Cause.{Counts, TellsLarge}
use Rattle.tup_site.specs.declared.fault.SiteFailed.{SiteFailed}
use Rattle.tup_site.specs.declared.fault.SiteFailed.TheVariants.{Fault, TooLarge as SiteTooLarge, Memory as SiteMemory}
use Rattle.tup_graph.specs.declared.fault.GraphFault.{GraphFault}
use Rattle.tup_graph.specs.declared.fault.GraphFault.TheVariants.{NotThere, BadStore, Site as GraphSite, Full as GraphFull, Memory as GraphMemory}
use Rattle.tup_stale.specs.declared.fault.StaleFault.{StaleFault}
use Rattle.tup_stale.specs.declared.fault.StaleFault.TheVariants.{Site, TooLarge, Full, Memory}

-- how a refusal of the site is told
abbrev pub of_site : SiteFailed → StaleFault
of_site Fault = Site
of_site (SiteTooLarge bytes) = TooLarge bytes
of_site SiteMemory = Memory

-- how a refusal of a transaction is told, which isn't one of the first two
abbrev pub of_graph : GraphFault → StaleFault
of_graph NotThere = Memory
of_graph (BadStore offset) = Memory
of_graph GraphSite = Site
of_graph GraphFull = Full
of_graph GraphMemory = Memory

-- the site's count rises with each `Site`, and at no other answer
abbrev pub CountsFaults : {T : Type 0} → ℕ → ℕ → Result T StaleFault → Type 0
CountsFaults before now result = Counts Site before now result

-- only a file that is longer than a file may be is too large
abbrev pub OnlyLarge : {T : Type 0} → Result T StaleFault → Type 0
OnlyLarge result = TellsLarge TooLarge result

-- nothing refuses but a failure of the site, a full store, or want of memory
abbrev pub IsStopped : {T : Type 0} → Result T StaleFault → Type 0
IsStopped result = IfErr result (λ fault. (fault ≡ Site) ⊎ (fault ≡ Full) ⊎ (fault ≡ Memory))
