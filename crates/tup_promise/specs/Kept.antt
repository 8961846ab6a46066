-- What the promises of an update rest on: a kept site, and the rules that its sources ask for (own).
use Rattle.std.specs.Prelude.{◌≡◌, List, Some, Ok, IsTrue}
use Rattle.std.specs.FinMap as finite
use Rattle.tup_path.specs.Name.{Names}
use Rattle.tup_path.specs.Tree.{Tree}
use Rattle.tup_site.specs.World.{World}
use Rattle.tup_site.specs.declared.site.Site.{Ghosts as Site}
use Rattle.tup_rule.specs.declared.question.Reading.{Reading}
use Rattle.tup_rule.specs.declared.rule.Rule.{Rule}
use Rattle.tup_readings.specs.Sources.{has_tupfile}
use Rattle.tup_runner.specs.Next.{Next}
use Rattle.tup_runner.specs.declared.runner.Runner.{Ghosts as Runner}
use Rattle.tup_project.specs.Project.{ComeTo}
use Rattle.tup_graph.specs.Graph.{GraphState}
use Rattle.tup_graph.specs.Kept.{IsGraphIn}
use Rattle.tup_ledger.specs.Sources.{sources_of}
use Rattle.tup_law_site.specs.Over.{IsKeptNow}
use Rattle.tup_law_phases.specs.Language.{tupfiles}

-- the store of a world holds a graph that has this property; a store holds at most one graph
abbrev pub OfGraph : World → (GraphState → Type 0) → Type 0
OfGraph w Property = (g : GraphState) × IsGraphIn w.store g × Property g

-- the sources of a world, which are its files that aren't owned, ask for these rules
abbrev pub AsksFor : World → List Rule → Type 0
AsksFor w rules = OfGraph w (λ g. ComeTo (sources_of g w.tree) (Ok rules))

-- each folder of which a graph keeps a reading has a Tupfile among these sources
abbrev pub HaveTupfiles : Tree → GraphState → Type 0
HaveTupfiles sources g = (dir : Names) (reading : Reading) → finite.get g.readings dir ≡ Some reading → IsTrue (has_tupfile sources dir)

-- a site is kept, and it and a runner tell: the site what it holds, the runner what its commands mean
pub record KeptHere {S R : Type 0} (site : Site S) (runner : Runner R) (at : S) : Type 0 where
  pub tells : IsTrue site.tells
  pub means : IsTrue runner.tells
  pub kept : IsKeptNow site runner.next tupfiles (site.known at) at

-- a site is kept, whatever its commands meant when they were run
abbrev pub IsKeptBySome : {S : Type 0} → Site S → S → Type 0
IsKeptBySome site at = (next : Next) × IsKeptNow site next tupfiles (site.known at) at
