-- What running the rules promises, where the graph was up to date before (own).
use Rattle.std.specs.Prelude.{◌≡◌, ℕ, Bool, Option, None, IsTrue}
use Rattle.tup_site.specs.declared.site.Site.{Ghosts as Site}
use Rattle.tup_runner.specs.Next.{Next}
use Rattle.tup_runner.specs.declared.runner.Runner.{Ghosts as Runner}
use Rattle.tup_stored_graph.specs.Held.{Held}
use Rattle.tup_law_site.specs.Over.{IsKeptNow}
use Rattle.tup_law_phases.specs.Language.{tupfiles}
use Rattle.tup_promise.specs.BadEnds.{BadEnds, BlamesFirst}
use Rattle.tup_promise.specs.Blamed.{IsToBlame}
use Rattle.tup_promise.specs.Crashes.{OwnsNoMore, SourcesAndCrashes, SourcesStay}
use Rattle.tup_promise.specs.Finished.{IsSettled, ExactlyTheFiles}
use Rattle.tup_promise.specs.GoodEnds.{GoodEnds}
use Rattle.tup_promise.specs.Kept.{OfGraph}
use Rattle.tup_promise.specs.Needed.{OnlyWhatIsNeeded}
use Rattle.tup_promise.specs.Prepared.{IsPrepared}
use Rattle.tup_promise.specs.States.{KeepsStates, States}
use Rattle.tup_promise.specs.declared.log.Log.{Log}
use Rattle.tup_promise.specs.declared.stop.Stop.{Stop}
use Rattle.tup_update.specs.Full.{HasFullCause}

-- a graph over a site is up to date with the site that an update began with; since then no more came to be owned than the outputs
-- of the rules, and owned paths kept their states
pub record WasPrepared {S : Type 0} (site : Site S) (next : Next) (old : S) (graph : Held) (at : S) : Type 0 where
  pub prepared : IsPrepared site next (site.world old) (site.moment old) graph at
  pub owns : OwnsNoMore site old (site.moment old) at
  pub states : KeepsStates (site.world old) graph.nodes
  pub stored : OfGraph (site.world at) (KeepsStates (site.world old))

-- what an update by so many runners leaves of a kept site, what it leaves to be run there, and what its log says of the rules that it ran,
-- by its answer
pub record Promises {S R : Type 0} (site : Site S) (runner : Runner R) (keep_going : Bool) (jobs : ℕ) (old new : S) (log : Log) (stopped : Option Stop) : Type 0 where
  pub files : ExactlyTheFiles runner.next (site.world old) (site.world new) stopped
  pub needed : OnlyWhatIsNeeded runner.next keep_going jobs (site.world old) (site.world new) log.ran stopped
  pub crashes : SourcesAndCrashes site runner.next old new
  pub states : States runner.next (site.world old) (site.world new)
  pub blamed : IsToBlame runner.next (site.world old) (site.world new) log.ran stopped
  pub bads : BadEnds runner.next (site.world old) log
  pub first : BlamesFirst (site.world old) log stopped
  pub left : GoodEnds runner.next (site.world old) (site.world new) log
  pub full : HasFullCause site runner.next old new log.ran stopped
  -- the site is kept as it is, and a crash leaves it as it is where nothing stopped it
  pub kept : IsKeptNow site runner.next tupfiles (site.known new) new
  pub settled : stopped ≡ None → IsSettled site new

-- that is promised where the graph over the site was up to date, and site and runner tell
abbrev pub PromisesOver : {S R : Type 0} → Site S → Runner R → Bool → ℕ → Held → S → S → Log → Option Stop → Type 0
PromisesOver {S} site runner keep_going jobs graph at new log stopped =
    (old : S) → IsTrue site.tells → IsTrue runner.tells → WasPrepared site runner.next old graph at → Promises site runner keep_going jobs old new log stopped

-- and the sources stay then, whatever the runner is
abbrev pub KeepsSources : {S : Type 0} → Site S → Held → S → S → Type 0
KeepsSources {S} site graph at new =
    (next : Next) (old : S) → IsTrue site.tells → IsPrepared site next (site.world old) (site.moment old) graph at → SourcesStay site old new
