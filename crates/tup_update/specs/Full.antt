-- Why an update is told that its store is full (own).
use Rattle.std.specs.Prelude.{◌≡◌, ◌⊎◌, ⊤, List, [], Option, None, Some}
use Rattle.tup_site.specs.World.{World}
use Rattle.tup_site.specs.declared.site.Site.{Ghosts as Site}
use Rattle.tup_rule.specs.declared.rule.RuleName.{RuleName}
use Rattle.tup_runner.specs.Next.{Next}
use Rattle.tup_promise.specs.declared.stop.Stop.{Stop}
use Rattle.tup_promise.specs.declared.stop.Stop.TheVariants.{NoStore, BadStore, Sources, UserFile, Bad, Run, Full, Outside}
use Rattle.tup_phases.specs.Room.{LacksRoom}
use Rattle.tup_ends.specs.Room.{LacksRoomToRun}

-- Where an update of a site that left another is told that the store is full, there is no room in it: before any command is run, in the
-- store as it is left for what was to be committed next; and after that, in a store of the present rules that a crash since the beginning
-- may leave, for what the run of one of them commits whose command was run, with what that command comes to.
abbrev pub HasFullCause : {S : Type 0} → Site S → Next → S → S → List RuleName → Option Stop → Type 0
HasFullCause site next old new ran None = ⊤
HasFullCause site next old new ran (Some NoStore) = ⊤
HasFullCause site next old new ran (Some (BadStore offset)) = ⊤
HasFullCause site next old new ran (Some (Sources fault)) = ⊤
HasFullCause site next old new ran (Some (UserFile path written found)) = ⊤
HasFullCause site next old new ran (Some (Bad name verdict)) = ⊤
HasFullCause site next old new ran (Some Run) = ⊤
HasFullCause site next old new ran (Some Full) = ((ran ≡ []) × LacksRoom (site.world new)) ⊎ ((w : World) × site.left_since new (site.moment old) w × LacksRoomToRun next (site.known new) (site.world old) w ran)
HasFullCause site next old new ran (Some (Outside failed)) = ⊤
