-- What the phases leave that come before any rule is run (own).
use Rattle.std.specs.Prelude.{◌≡◌, ⊤, []}
use Rattle.std.specs.FinMap as finite
use Rattle.tup_path.specs.Name.{Names}
use Rattle.tup_path.specs.Tree.{Tree}
use Rattle.tup_graph.specs.Graph.{GraphState}
use Rattle.tup_graph.specs.Reach.{stamp_in}
use Rattle.tup_promise.specs.Unopened.{IsEmptyLog}
use Rattle.tup_promise.specs.declared.log.Log.{Log}
use Rattle.tup_promise.specs.declared.stop.Stop.{Stop}
use Rattle.tup_promise.specs.declared.stop.Stop.TheVariants.{NoStore, BadStore, Sources, UserFile, Bad, Run, Full, Outside}

-- the files that a graph has seen are those of a tree
abbrev pub HasSeen : GraphState → Tree → Type 0
HasSeen g tree = (path : Names) → finite.get g.seen path ≡ stamp_in tree path

-- of a log the rules that were begun, and what became of them, stay
pub record RunsNone (old new : Log) : Type 0 where
  pub ran : new.ran ≡ old.ran
  pub ended : new.ended ≡ old.ended
  pub steps : new.steps ≡ old.steps

-- what may stop an update before any rule is run
abbrev pub StopsBefore : Stop → Type 0
StopsBefore NoStore = ⊤
StopsBefore (BadStore offset) = ⊤
StopsBefore (Sources fault) = ⊤
StopsBefore (UserFile path written found) = ⊤
StopsBefore (Bad name verdict) = ⊥
StopsBefore Run = ⊥
StopsBefore Full = ⊤
StopsBefore (Outside failed) = ⊤

-- and what may stop it once its store was opened
abbrev pub StopsOpened : Stop → Type 0
StopsOpened NoStore = ⊥
StopsOpened (BadStore offset) = ⊥
StopsOpened (Sources fault) = ⊤
StopsOpened (UserFile path written found) = ⊤
StopsOpened (Bad name verdict) = ⊥
StopsOpened Run = ⊥
StopsOpened Full = ⊤
StopsOpened (Outside failed) = ⊤

-- what may stop it from then on until the files that no rule makes any more are to be removed
abbrev pub StopsReading : Stop → Type 0
StopsReading NoStore = ⊥
StopsReading (BadStore offset) = ⊥
StopsReading (Sources fault) = ⊤
StopsReading (UserFile path written found) = ⊥
StopsReading (Bad name verdict) = ⊥
StopsReading Run = ⊥
StopsReading Full = ⊤
StopsReading (Outside failed) = ⊤

-- what may stop it before that, its store included
abbrev pub StopsSurvey : Stop → Type 0
StopsSurvey NoStore = ⊤
StopsSurvey (BadStore offset) = ⊤
StopsSurvey (Sources fault) = ⊤
StopsSurvey (UserFile path written found) = ⊥
StopsSurvey (Bad name verdict) = ⊥
StopsSurvey Run = ⊥
StopsSurvey Full = ⊤
StopsSurvey (Outside failed) = ⊤

-- what may stop the removal of files that no rule makes
abbrev pub StopsClearing : Stop → Type 0
StopsClearing NoStore = ⊥
StopsClearing (BadStore offset) = ⊥
StopsClearing (Sources fault) = ⊥
StopsClearing (UserFile path written found) = ⊤
StopsClearing (Bad name verdict) = ⊥
StopsClearing Run = ⊥
StopsClearing Full = ⊤
StopsClearing (Outside failed) = ⊤

-- what a log tells that stopped so: no folder was read where the sources have a fault, and no file was removed there, nor where
-- one is the user's
abbrev pub LogsBefore : Log → Stop → Type 0
LogsBefore log NoStore = IsEmptyLog log
LogsBefore log (BadStore offset) = IsEmptyLog log
LogsBefore log (Sources fault) = IsEmptyLog log
LogsBefore log (UserFile path written found) = log.removed ≡ []
LogsBefore log stop = ⊤
