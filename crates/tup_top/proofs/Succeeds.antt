-- Where nothing stands in the way of an update, it is done, but for want of memory or of room in the store: every other cause is excluded. So it is of finding out what it would do.
use Rattle.std.proofs.Common.{◌≡◌, ◌⊎◌, ⊎_elim, ℕ, ◌<◌, ◌≤◌, true, false, List, Option, Some, Ok, Err, refl, sym, ap, subst, ◌∙◌, arith}
use Rattle.std.specs.FinMap as finite
use Rattle.std.specs.Prelude.{length, slice_get}
use Rattle.std.specs.List.{list_all}
use Rattle.std.proofs.lemmas.Bool.{true≢false}
use Rattle.std.proofs.lemmas.List.Folds.{list_all_at}
use Rattle.std.proofs.lemmas.Option.{get_or_from_slice_get, slice_get_within}
use Rattle.tup_site.specs.Cause.{most_bytes}
use Rattle.tup_site.specs.World.{World}
use Rattle.tup_site.specs.declared.site.Site.{Ghosts as Site}
use Rattle.tup_rule.specs.declared.rule.Rule.{Rule}
use Rattle.tup_rule.specs.declared.rule.RuleName.{RuleName}
use Rattle.tup_runner.specs.Next.{Next}
use Rattle.tup_access.specs.declared.verdict.Verdict.{Verdict}
use Rattle.tup_access.specs.declared.verdict.Verdict.TheVariants.{Failed, IllegalRead as ReadsIllegally, IllegalWrite as WritesIllegally, Unwritten as LeavesUnwritten, TooManyReads as ReadsTooOften}
use Rattle.tup_clean.specs.Clean.{clean, is_good, succeeds}
use Rattle.tup_project.specs.Project.{ComeTo}
use Rattle.tup_project.specs.Laws.{AreAlike}
use Rattle.tup_project.specs.declared.fault.ProjectFault.{ProjectFault}
use Rattle.tup_project.specs.declared.fault.ProjectFault.TheVariants as project
use Rattle.tup_project.proofs.Alike.{projects_alike}
use Rattle.tup_graph.specs.Graph.{GraphState}
use Rattle.tup_graph.specs.Kept.{IsGraphIn}
use Rattle.tup_ledger.specs.Sources.{sources_of}
use Rattle.tup_law_site.proofs.Stores.{one_in_bytes}
use Rattle.tup_promise.specs.Blamed.{ComesToFault, HasFileOf, IsBadRule, IsToBlame}
use Rattle.tup_promise.specs.Kept.{AsksFor, OfGraph}
use Rattle.tup_promise.specs.Stopped.{stop_of_project}
use Rattle.tup_promise.specs.declared.fault.SourcesFault.{SourcesFault}
use Rattle.tup_promise.specs.declared.fault.SourcesFault.TheVariants as sources
use Rattle.tup_promise.specs.declared.stop.Stop.TheVariants.{Sources}
use Rattle.tup_promise.proofs.Stored.{some_bytes, undamaged}
use Rattle.tup_top.specs.Promise.{Counts, FindsOut, HasAloneCause, HasSharedCause, IsDoneOrMemory, NothingFailed, OpensStore}
use Rattle.tup_top.specs.Status.{IfCame}
use Rattle.tup_top.specs.Success.{CanBeDone, CanBeListed, IsDoneOrNoRoom}
use Rattle.tup_top.specs.declared.status.What.TheVariants.{Files, FileSize, Commands, Links, StoreSize}
use Rattle.tup_top.specs.declared.status.Status.{Status}
use Rattle.tup_top.specs.declared.status.Status.TheVariants.{Done, Command, IllegalRead, IllegalWrite, Unwritten, TooManyReads, Usage, NotInit, AlreadyInit, BadStore, Parse, CircularDirs, CircularCommands, NoSuchGroup, UserFile, SiteFault, RunFault, SinkFault, TellFault, Limit, Memory, Differs}
use Rattle.tup_top.proofs.Success.{no_runner_rose, not_rose}

-- verdicts of which one isn't good aren't all good
one_bad : (verdicts : List (Option Verdict)) (at : ℕ) (verdict : Verdict) → slice_get verdicts at ≡ Some (Some verdict) → is_good (Some verdict) ≡ false → list_all is_good verdicts ≡ true → ⊥
one_bad verdicts at verdict here bad all =
    true≢false (sym all
    ∙ list_all_at is_good verdicts at (Some verdict) (slice_get_within verdicts at (Some verdict) here) (ap is_good (get_or_from_slice_get verdicts at (Some verdict) (Some verdict) here) ∙ bad))

too_many : (count many : ℕ) → 65536 < count → many ≡ count → many ≤ 65536 → ⊥
too_many count many above same few = omega (arith, above, same, few)

-- sources that come to rules come to no fault that is told of them
not_both : (rules : List Rule) (cause : ProjectFault) (fault : SourcesFault) → AreAlike (Ok rules) (Err cause) → stop_of_project cause ≡ Sources fault → ⊥
not_both rules (project.Parse parse) fault alike is = alike
not_both rules (project.CircularDirs dirs) fault alike is = alike
not_both rules (project.CircularCommands names) fault alike is = alike
not_both rules (project.NoSuchGroup group) fault alike is = alike
not_both rules (project.TooMany what number) fault alike is = alike
not_both rules project.Memory fault alike is = absurd (cc is)

-- sources that ask for rules have no fault
pub no_fault : (old : World) → ((rules : List Rule) × AsksFor old rules) → (fault : SourcesFault) → ComesToFault old fault → ⊥
no_fault old (rules, (g, stored, come)) fault (h, reads, (cause, faulty, is)) =
    not_both rules cause fault
    (projects_alike (sources_of g old.tree) (Ok rules) (Err cause) come (subst (λ (k : GraphState). ComeTo (sources_of k old.tree) (Err cause)) (one_in_bytes old.store h g reads stored) faulty)) is

-- nor is a rule bad, where all are good in the clean build
pub no_bad : (next : Next) (old : World) → ((rules : List Rule) → AsksFor old rules → OfGraph old (λ g. succeeds (clean next rules (sources_of g old.tree)) ≡ true)) → (ran : List RuleName) (name : RuleName) (verdict : Verdict) → is_good (Some verdict) ≡ false
    → IsBadRule next old ran name verdict → ⊥
no_bad next old all ran name verdict bad blamed =
    let builds = all blamed.rules blamed.asked in
    one_bad (clean next blamed.rules (sources_of builds.0 old.tree)).verdicts blamed.at verdict
    (subst (λ (k : GraphState). slice_get (clean next blamed.rules (sources_of k old.tree)).verdicts blamed.at ≡ Some (Some verdict)) (one_in_bytes old.store blamed.verdict_is.0 builds.0 blamed.verdict_is.1 builds.1) blamed.verdict_is.2)
    bad builds.2

-- ---- finding out what an update would do ends well
module _ (old new : World) (g : GraphState) (stored : IsGraphIn old.store g) (can : CanBeListed old new) where
  pub finds_so : (kept : Type 0) (before now : Counts) (status : Status) → kept → IfCame status (FindsOut kept old new) → HasAloneCause before now status → (status ≡ TellFault → ⊥) → NothingFailed before now → IsDoneOrMemory status
  finds_so kept before now (Done read ran removed) here finds counted told fine = tt
  finds_so kept before now (Command rule status) here finds counted told fine = absurd finds.stops
  finds_so kept before now (IllegalRead rule text) here finds counted told fine = absurd finds.stops
  finds_so kept before now (IllegalWrite rule text) here finds counted told fine = absurd finds.stops
  finds_so kept before now (Unwritten rule path) here finds counted told fine = absurd finds.stops
  finds_so kept before now (TooManyReads rule) here finds counted told fine = absurd finds.stops
  finds_so kept before now (Usage place) here finds counted told fine = absurd finds
  finds_so kept before now NotInit here finds counted told fine = some_bytes old.store g stored finds.opens.2.0
  finds_so kept before now AlreadyInit here finds counted told fine = absurd finds
  finds_so kept before now (BadStore offset) here finds counted told fine = undamaged old.store g offset stored finds.opens.2.0
  finds_so kept before now (Parse fault) here finds counted told fine = no_fault old can.read.asks (sources.Parse fault) (finds.blamed here)
  finds_so kept before now (CircularDirs cycle) here finds counted told fine = no_fault old can.read.asks (sources.CircularDirs cycle) (finds.blamed here)
  finds_so kept before now (CircularCommands cycle) here finds counted told fine = no_fault old can.read.asks (sources.CircularCommands cycle) (finds.blamed here)
  finds_so kept before now (NoSuchGroup group) here finds counted told fine = no_fault old can.read.asks (sources.NoSuchGroup group) (finds.blamed here)
  finds_so kept before now (UserFile path) here (written, found, finds) counted told fine = absurd finds.stops
  finds_so kept before now SiteFault here finds counted told fine = not_rose before.site now.site fine.site fine.site_counts counted.0
  finds_so kept before now RunFault here finds counted told fine = absurd finds.stops
  finds_so kept before now SinkFault here finds counted told fine = not_rose before.sink now.sink fine.sink fine.sink_counts counted.1
  finds_so kept before now TellFault here finds counted told fine = told refl
  finds_so kept before now (Limit FileSize number) here (count, passed, finds) counted told fine = can.read.small count passed.many (finds.blamed here)
  finds_so kept before now (Limit Files number) here (count, passed, finds) counted told fine = too_many count (length (finite.keys old.tree)) passed.many (finds.blamed here) can.read.few
  finds_so kept before now (Limit Commands number) here (count, passed, finds) counted told fine = no_fault old can.read.asks (sources.TooManyCommands count) (finds.blamed here)
  finds_so kept before now (Limit Links number) here (count, passed, finds) counted told fine = no_fault old can.read.asks (sources.TooManyLinks count) (finds.blamed here)
  finds_so kept before now (Limit StoreSize number) here finds counted told fine = can.room (finds.full here)
  finds_so kept before now Memory here finds counted told fine = tt
  finds_so kept before now (Differs path) here finds counted told fine = absurd finds

-- ---- an update ends well
module _ {S : Type 0} (site : Site S) (next : Next) (old new : S) (g : GraphState) (stored : IsGraphIn (site.world old).store g) (can : CanBeDone site next old new) where
  abbrev first : World
  first = site.world old

  abbrev left : World
  left = site.world new

  no_large : (bytes : ℕ) → most_bytes < bytes → HasFileOf bytes first.tree ⊎ HasFileOf bytes left.tree → ⊥
  no_large bytes passed = ⊎_elim (can.read.small bytes passed) (can.small bytes passed)

  -- an update ends well, or for want of room
  pub updates_so : (ran : List RuleName) (before now : Counts) (status : Status) → IfCame status (OpensStore first left ran) → IfCame status (IsToBlame next first left ran)
      → HasSharedCause before now status → (status ≡ TellFault → ⊥) → NothingFailed before now → IsDoneOrNoRoom status
  updates_so ran before now (Done read done removed) opens blamed counted told fine = tt
  updates_so ran before now (Command rule status) opens blamed counted told fine = no_bad next first can.builds ran rule (Failed status) refl blamed
  updates_so ran before now (IllegalRead rule text) opens blamed counted told fine = no_bad next first can.builds ran rule (ReadsIllegally text) refl blamed
  updates_so ran before now (IllegalWrite rule text) opens blamed counted told fine = no_bad next first can.builds ran rule (WritesIllegally text) refl blamed
  updates_so ran before now (Unwritten rule path) opens blamed counted told fine = no_bad next first can.builds ran rule (LeavesUnwritten path) refl blamed
  updates_so ran before now (TooManyReads rule) opens blamed counted told fine = no_bad next first can.builds ran rule ReadsTooOften refl blamed
  updates_so ran before now (Usage place) opens blamed counted told fine = absurd counted
  updates_so ran before now NotInit opens blamed counted told fine = some_bytes first.store g stored opens.2.0
  updates_so ran before now AlreadyInit opens blamed counted told fine = absurd counted
  updates_so ran before now (BadStore offset) opens blamed counted told fine = undamaged first.store g offset stored opens.2.0
  updates_so ran before now (Parse fault) opens blamed counted told fine = no_fault first can.read.asks (sources.Parse fault) blamed
  updates_so ran before now (CircularDirs cycle) opens blamed counted told fine = no_fault first can.read.asks (sources.CircularDirs cycle) blamed
  updates_so ran before now (CircularCommands cycle) opens blamed counted told fine = no_fault first can.read.asks (sources.CircularCommands cycle) blamed
  updates_so ran before now (NoSuchGroup group) opens blamed counted told fine = no_fault first can.read.asks (sources.NoSuchGroup group) blamed
  updates_so ran before now (UserFile path) opens (written, found, blamed) counted told fine = can.unhindered (path, written, found, blamed.users)
  updates_so ran before now SiteFault opens blamed counted told fine = not_rose before.site now.site fine.site fine.site_counts counted
  updates_so ran before now RunFault opens blamed counted told fine = no_runner_rose before now fine counted
  updates_so ran before now SinkFault opens blamed counted told fine = not_rose before.sink now.sink fine.sink fine.sink_counts counted.1
  updates_so ran before now TellFault opens blamed counted told fine = told refl
  updates_so ran before now (Limit FileSize number) opens (count, passed, large) counted told fine = absurd (no_large count passed.many large)
  updates_so ran before now (Limit Files number) opens (count, passed, many) counted told fine = absurd (too_many count (length (finite.keys first.tree)) passed.many many can.read.few)
  updates_so ran before now (Limit Commands number) opens (count, passed, fault) counted told fine = absurd (no_fault first can.read.asks (sources.TooManyCommands count) fault)
  updates_so ran before now (Limit Links number) opens (count, passed, fault) counted told fine = absurd (no_fault first can.read.asks (sources.TooManyLinks count) fault)
  updates_so ran before now (Limit StoreSize number) opens blamed counted told fine = refl
  updates_so ran before now Memory opens blamed counted told fine = tt
  updates_so ran before now (Differs path) opens blamed counted told fine = absurd counted
