-- The update that a demo shows, of a small project in a site of its own (own).
use Rattle.std.specs.Prelude.{false, List, [], ◌∷◌, ◌++◌}
use Rattle.tup_site.specs.World.{World}
use Rattle.tup_rule.specs.declared.rule.RuleName.{RuleName}
use Rattle.tup_mini.specs.Means.{mini_next}
use Rattle.tup_demo.specs.Project.{demo_tree}
use Rattle.tup_demo.specs.Steady.{known_in, left_since, moment_of, world_in}
use Rattle.tup_demo.specs.declared.steady.SteadySite.{SteadySite}
use Rattle.tup_table.specs.Store.{header}
use Rattle.tup_graph.specs.Kept.{IsKeptSite}
use Rattle.tup_law_phases.specs.Language.{tupfiles}
use Rattle.tup_promise.specs.Finished.{ExactlyTheFiles}
use Rattle.tup_promise.specs.Needed.{OnlyWhatIsNeeded}
use Rattle.tup_promise.specs.States.{States}
use Rattle.tup_top.specs.Status.{IfCame}
use Rattle.tup_top.specs.declared.status.Status.{Status}

-- the small project of a demo, in the site that holds it, once it began
abbrev pub demo_world : World
demo_world = record { tree = demo_tree; store = header ++ 0 ∷ [] }

-- a project is kept by what the built-in commands mean, in such a site
abbrev pub IsKeptDemo : SteadySite → Type 0
IsKeptDemo at = IsKeptSite mini_next tupfiles (known_in at) (world_in at) (left_since at (moment_of at))

-- What a demo's update by one runner promises that began these rules, left this world and ended so: where it is done the files are exactly
-- those of a clean build; whatever it answers only what is needed was run, and each owned path is in the state that it was in, or in
-- one of this update.
pub record UpdatesDemo (ran : List RuleName) (left : World) (status : Status) : Type 0 where
  pub files : IfCame status (ExactlyTheFiles mini_next demo_world left)
  pub needed : IfCame status (OnlyWhatIsNeeded mini_next false 1 demo_world left ran)
  pub states : States mini_next demo_world left
