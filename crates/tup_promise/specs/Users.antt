-- A file of the user's at a path that no rule makes any more: it holds an update up, which touches no file then (own).
use Rattle.std.specs.Prelude.{◌≡◌, ◌≢◌, false, List, [], Option, None}
use Rattle.std.specs.declared.cmp.Ordering.TheVariants.{Less}
use Rattle.tup_path.specs.Name.{Names}
use Rattle.tup_path.specs.Order.{by_names}
use Rattle.tup_stamp.specs.declared.Stamp.{Stamp}
use Rattle.tup_site.specs.Crash.{GoesOn}
use Rattle.tup_site.specs.World.{World, TreeStays}
use Rattle.tup_site.specs.declared.site.Site.{Ghosts as Site}
use Rattle.tup_rule.specs.Rule.{is_generated}
use Rattle.tup_rule.specs.declared.rule.Rule.{Rule}
use Rattle.tup_rule.specs.declared.rule.RuleName.{RuleName}
use Rattle.tup_graph.specs.Graph.{GraphState}
use Rattle.tup_graph.specs.Kept.{IsGraphIn}
use Rattle.tup_stale.specs.Unmade.{HasUsers}
use Rattle.tup_promise.specs.Kept.{AsksFor}
use Rattle.tup_promise.specs.declared.stop.Stop.{Stop}

-- at an owned path that none of the rules makes which the sources ask for stands a file of the user's, with this stamp, in the
-- place of what was written
pub record IsUsersFile (w : World) (path : Names) (written : Option Stamp) (found : Stamp) : Type 0 where
  pub graph : GraphState
  pub stored : IsGraphIn w.store graph
  pub users : HasUsers graph w.tree path written found
  pub rules : List Rule
  pub asked : AsksFor w rules
  pub unmade : is_generated rules path ≡ false

-- such a file, and none stands at a path that comes before in the order of paths
pub record IsFirstUsersFile (w : World) (path : Names) (written : Option Stamp) (found : Stamp) : Type 0 where
  pub users : IsUsersFile w path written found
  pub first : (earlier : Names) (was : Option Stamp) (is : Stamp) → by_names earlier path ≡ Less → IsUsersFile w earlier was is → ⊥

-- somewhere such a file stands
abbrev pub HasUsersFile : World → Type 0
HasUsersFile w = (path : Names) × (written : Option Stamp) × (found : Stamp) × IsUsersFile w path written found

-- an update that is held up: it is stopped, began no rule, and touched no file; a crash leaves files as it could leave them before
pub record IsHeldUp {S : Type 0} (site : Site S) (old new : S) (ran : List RuleName) (stopped : Option Stop) : Type 0 where
  pub stops : stopped ≢ None
  pub none : ran ≡ []
  pub files : TreeStays (site.world old) (site.world new)
  pub crash : GoesOn site.moment site.left_since old new TreeStays
