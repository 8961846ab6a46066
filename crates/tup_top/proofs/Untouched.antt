-- What an update promises of a kept site to which nothing was done.
use Rattle.std.proofs.Common.{◌≡◌, inl, List, [], Bool, ℕ, Some, refl, sym, subst, arith}
use Rattle.tup_site.specs.declared.fault.SiteFailed.TheVariants.{Memory as NoMemory}
use Rattle.tup_site.specs.declared.site.Site.{Ghosts as Site}
use Rattle.tup_rule.specs.declared.rule.RuleName.{RuleName}
use Rattle.tup_runner.specs.Next.{Next}
use Rattle.tup_runner.specs.declared.runner.Runner.{Ghosts as Runner}
use Rattle.tup_table.specs.Entries.{Standing, entries_of}
use Rattle.tup_graph.specs.Graph.{GraphState}
use Rattle.tup_graph.specs.Kept.{IsKeptWorld}
use Rattle.tup_graph.specs.Opening.{IsGraphOf}
use Rattle.tup_partial.specs.Plan.{AreFlagsOfRules}
use Rattle.tup_law_site.specs.Over.{IsKeptNow}
use Rattle.tup_law_phases.specs.Language.{tupfiles}
use Rattle.tup_promise.specs.Crashes.{SourcesAndCrashes}
use Rattle.tup_promise.specs.Kept.{KeptHere}
use Rattle.tup_promise.specs.Needed.{FlagsWhatWasDue, OnlyWhatIsNeeded}
use Rattle.tup_promise.specs.States.{States}
use Rattle.tup_promise.specs.declared.stop.Stop.TheVariants.{Outside}
use Rattle.tup_phases.proofs.Within.{own_within}
use Rattle.tup_ends.proofs.Due.{none_runs}

-- each rule that is flagged is due
pub untouched_flags : {S : Type 0} (site : Site S) (at : S) (next : Next) → IsKeptNow site next tupfiles (site.known at) at → ((entries : Standing) (g : GraphState) → IsGraphOf entries g → AreFlagsOfRules g)
    → FlagsWhatWasDue (site.world at) (site.world at)
untouched_flags site at next kept flags =
    let graph = kept.now.graph in
    let reads = kept.now.reads in
    (graph, reads, (own_within (site.world at) graph reads (flags (entries_of reads.commits) graph reads.graph)).due)

module _ {S R : Type 0} (site : Site S) (runner : Runner R) (at : S) (here : KeptHere site runner at) where
  abbrev now : IsKeptWorld runner.next tupfiles (site.known at) (site.world at)
  now = here.kept.now

  pub untouched_needed : ((entries : Standing) (g : GraphState) → IsGraphOf entries g → AreFlagsOfRules g) → (keep_going : Bool) (jobs : ℕ) (ran : List RuleName) → ran ≡ [] → OnlyWhatIsNeeded runner.next keep_going jobs (site.world at) (site.world at) ran (Some (Outside NoMemory))
  untouched_needed flags keep_going jobs ran none =
      subst (λ (names : List RuleName). OnlyWhatIsNeeded runner.next keep_going jobs (site.world at) (site.world at) names (Some (Outside NoMemory))) (sym none) (record {
        runs = none_runs runner.next keep_going jobs (site.world at) (Some (Outside NoMemory)) tt;
        flagged = untouched_flags site at runner.next here.kept flags;
      })

  pub untouched_crashes : SourcesAndCrashes site runner.next at at
  untouched_crashes = record {
    later = omega arith;
    kept = here.kept;
    owned = λ w left. let there = here.kept.later w left in (there.graph, there.reads, λ path owned. inl (w, left, (there.graph, there.reads, owned)));
  }

  pub untouched_states : States runner.next (site.world at) (site.world at)
  untouched_states = (now.graph, now.reads, (now.graph, now.reads, λ path owned is. inl (owned, is, refl)))
