-- Where nothing stands in the way of a comparison, it is made, but for want of memory: every other cause is excluded.
use Rattle.std.proofs.Common.{◌≡◌, inl, inr, ℕ, ◌-◌, ◌^◌, ◌<◌, List, Some, sym, ap, ◌∙◌, arith}
use Rattle.std.specs.List.{slice_get}
use Rattle.tup_path.specs.Count.{Rose}
use Rattle.tup_site.specs.Cause.{most_bytes}
use Rattle.tup_site.specs.World.{World}
use Rattle.tup_runner.specs.Next.{Next}
use Rattle.tup_promise.specs.declared.fault.SourcesFault.TheVariants as sources
use Rattle.tup_compare.specs.Compared.{HasCompared}
use Rattle.tup_promise.specs.Blamed.{HasFileOf}
use Rattle.tup_compare.proofs.Held.{undamaged, there}
use Rattle.tup_top.specs.Status.{IfCompared}
use Rattle.tup_promise.specs.Cause.{OneRose}
use Rattle.tup_top.specs.Promise.{HasComparedCause, Counts, NothingFailed, CanBeCompared, IsComparisonOrMemory}
use Rattle.tup_top.specs.declared.status.What.TheVariants.{Files, FileSize, Commands, Links, StoreSize}
use Rattle.tup_top.specs.declared.status.Status.{Status}
use Rattle.tup_top.specs.declared.status.Status.TheVariants.{Done, Command, IllegalRead, IllegalWrite, Unwritten, TooManyReads, Usage, NotInit, AlreadyInit, BadStore, Parse, CircularDirs, CircularCommands, NoSuchGroup, UserFile, SiteFault, RunFault, SinkFault, TellFault, Limit, Memory, Differs}

pub not_rose : (before now : ℕ) → now ≡ before → now < 2 ^ 64 - 1 → Rose before now → ⊥
not_rose before now same counts (inl more) = omega (arith, same, more)
not_rose before now same counts (inr end) = omega (arith, counts, end)

-- no runner failed
pub no_runner_rose : (before now : Counts) → NothingFailed before now → OneRose before.runners now.runners → ⊥
no_runner_rose before now fine one =
    let there : slice_get now.runners one.at ≡ Some one.was = ap (λ (l : List ℕ). slice_get l one.at) fine.runners ∙ one.stood in
    let same : Some one.is ≡ Some one.was = sym one.stands ∙ there in
    not_rose one.was one.is (cc same) (fine.runners_count one.at one.is one.stands) one.rose

no_large : (w : World) (number : ℕ) → CanBeCompared w → HasFileOf number w.tree → most_bytes < number → ⊥
no_large w number can file large =
    let small = can.small file.0 file.1.content file.1.found in
    let bytes = file.1.bytes in
    omega (arith, small, bytes, large)

pub compares_so : (next : Next) (w : World) (before now : Counts) (status : Status) → IfCompared status (HasCompared next w) → HasComparedCause before now status → CanBeCompared w → NothingFailed before now → IsComparisonOrMemory status
compares_so next w before now (Done read ran removed) cause counted can fine = tt
compares_so next w before now (Command rule status) cause counted can fine = tt
compares_so next w before now (IllegalRead rule text) cause counted can fine = tt
compares_so next w before now (IllegalWrite rule text) cause counted can fine = tt
compares_so next w before now (Unwritten rule path) cause counted can fine = tt
compares_so next w before now (TooManyReads rule) cause counted can fine = tt
compares_so next w before now (Usage place) cause counted can fine = absurd counted
compares_so next w before now NotInit cause counted can fine = absurd (there w.store can.held.owned can.store_reads.lists cause)
compares_so next w before now AlreadyInit cause counted can fine = absurd counted
compares_so next w before now (BadStore offset) cause counted can fine = absurd (undamaged w.store can.held.owned offset can.store_reads.lists cause)
compares_so next w before now (Parse fault) cause counted can fine = absurd (can.sources_read (sources.Parse fault) cause)
compares_so next w before now (CircularDirs cycle) cause counted can fine = absurd (can.sources_read (sources.CircularDirs cycle) cause)
compares_so next w before now (CircularCommands cycle) cause counted can fine = absurd (can.sources_read (sources.CircularCommands cycle) cause)
compares_so next w before now (NoSuchGroup group) cause counted can fine = absurd (can.sources_read (sources.NoSuchGroup group) cause)
compares_so next w before now (UserFile path) cause counted can fine = absurd cause.2
compares_so next w before now SiteFault cause counted can fine = not_rose before.site now.site fine.site fine.site_counts counted.0
compares_so next w before now RunFault cause counted can fine = no_runner_rose before now fine counted.1
compares_so next w before now SinkFault cause counted can fine = not_rose before.sink now.sink fine.sink fine.sink_counts counted.1
compares_so next w before now TellFault cause counted can fine = absurd counted
compares_so next w before now (Limit FileSize number) (count, passed, large) counted can fine = no_large w count can large passed.many
compares_so next w before now (Limit Files number) (count, passed, refused) counted can fine = absurd (can.sources_read (sources.TooManyFiles count) refused)
compares_so next w before now (Limit Commands number) (count, passed, refused) counted can fine = absurd (can.sources_read (sources.TooManyCommands count) refused)
compares_so next w before now (Limit Links number) (count, passed, refused) counted can fine = absurd (can.sources_read (sources.TooManyLinks count) refused)
compares_so next w before now (Limit StoreSize number) cause counted can fine = absurd cause
compares_so next w before now Memory cause counted can fine = tt
compares_so next w before now (Differs path) cause counted can fine = tt
