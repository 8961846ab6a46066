-- A history of a project: edits, crashes and runs of the program, one after another. Own.
use Rattle.std.specs.Prelude.{◌≡◌, ◌⊎◌, ⊤, Bool, IsTrue, ℕ, List, [], ◌∷◌, length, take, map, Option, None, Some, slice_get}
use Rattle.tup_path.specs.Name.{Names}
use Rattle.tup_site.specs.Memory.{world_in, moment_of, left_since, faults_of, left_of}
use Rattle.tup_site.specs.declared.choice.Deed.{Deed as ADeed}
use Rattle.tup_site.specs.declared.memory.MemSite.{MemSite}
use Rattle.tup_site.specs.declared.refused.MemRefused.{MemRefused}
use Rattle.tup_site.specs.declared.refused.MemRefused.TheVariants.{Memory}
use Rattle.tup_runner.specs.Next.{Next}
use Rattle.tup_runner.specs.declared.runner.Runner.{Ghosts as Runner}
use Rattle.tup_tell.specs.declared.sink.Sink.{Ghosts as Sink}
use Rattle.tup_top.specs.Order.{BringsUp, order}
use Rattle.tup_top.specs.Promise.{Counts}
use Rattle.tup_top.specs.declared.order.Word.{Word}
use Rattle.tup_top.specs.declared.status.Status.{Status}
use Rattle.tup_history.specs.Chain.{Leads}
use Rattle.tup_history.specs.Kept.{IsKept}
use Rattle.tup_history.specs.Deed.{IsCarriedOut, IsUntouched, Refuses}
use Rattle.tup_history.specs.Run.{SaysDone, Finishes, Keeps, Leaves, Updates, Lets, left_then, left_behind}
use Rattle.tup_history.specs.Telling.{HasPrinted, HasRun, told_by}
use Rattle.tup_history.specs.declared.turn.Turn.{Turn}
use Rattle.tup_history.specs.declared.turn.Turn.TheVariants.{Deed, Run}
use Rattle.tup_history.specs.declared.turn.End.{End}

-- How a project stands between two turns: its site, and how often each runner and the sink have failed so far. Where the runners tell it,
-- it has what each of them was given to run, and where the sink tells it, what that holds.
pub record Standing : Type 0 where
  pub site : MemSite
  pub runners : List ℕ
  pub commands : Option (List (List (Names × List ℕ)))
  pub sink : ℕ
  pub held : Option (List ℕ)

-- that of a site, a crew and a sink
abbrev pub standing : {R K : Type 0} → Runner R → Sink K → MemSite → List R → K → Standing
standing runner sink site crew out = record {
  site = site;
  runners = map runner.faults crew;
  commands = told_by runner.tells_ran (map runner.ran crew);
  sink = sink.faults out;
  held = told_by sink.tells (sink.held out);
}

-- the failures counted so far, of a site with these runners and this sink
abbrev pub counted : MemSite → Standing → Counts
counted site stands = record { site = faults_of site; runners = stands.runners; sink = stands.sink }

-- a deed was done, and its end tells the moment then
pub record EndsDeed (deed : ADeed) (end : End) (old new : MemSite) : Type 0 where
  pub done : IsCarriedOut deed old new
  pub moment : end.moment ≡ moment_of new
  pub status : end.status ≡ None
  pub ran : end.ran ≡ []

-- a turn that is a deed: nobody but the site has part in it
pub record TakesDeed (deed : ADeed) (end : End) (from to : Standing) : Type 0 where
  pub ends : EndsDeed deed end from.site to.site
  pub runners : to.runners ≡ from.runners
  pub commands : to.commands ≡ from.commands
  pub sink : to.sink ≡ from.sink
  pub held : to.held ≡ from.held

-- A turn that is a run: it began once so many calls were let pass, and left what the program promises of a run with these
-- words; then all calls pass again.
pub record TakesRun (tells : Bool) (next : Next) (words : List Word) (stop_after : Option ℕ) (end : End) (from to : Standing) : Type 0 where
  pub begun : MemSite
  pub ended : MemSite
  pub status : Status
  pub begins : Lets (left_then stop_after (left_of from.site)) from.site begun
  pub keeps : Keeps tells next (order words) (world_in begun) (world_in ended) (counted begun from) (counted ended to) status end.ran
  pub leaves : Leaves (order words) begun ended status
  pub finishes : Finishes tells next (order words) begun ended (counted begun from) (counted ended to) status
  pub updates : IsTrue tells → IsKept next begun → Updates next (length from.runners) (order words) begun ended status end.ran
  pub runs : (before now : List (List (Names × List ℕ))) → from.commands ≡ Some before → to.commands ≡ Some now → HasRun tells next (order words) (length from.runners) (world_in begun) before now status end.ran
  pub prints : (held holds : List ℕ) → from.held ≡ Some held → to.held ≡ Some holds → HasPrinted tells next (order words) (length from.runners) begun ended from.sink to.sink held holds status end.ran
  pub goes_on : Lets (left_behind stop_after (left_of ended)) ended to.site
  pub moment : end.moment ≡ moment_of to.site
  pub answered : end.status ≡ Some status

-- a turn leads from one standing to the next
abbrev pub Takes : Bool → Next → Turn → End → Standing → Standing → Type 0
Takes tells next (Deed deed) end from to = TakesDeed deed end from to
Takes tells next (Run words stop_after) end from to = TakesRun tells next words stop_after end from to

-- These turns with these ends are a history: each leads from where the one before it led.
abbrev pub IsHistory : Bool → Next → List Turn → List End → Standing → Standing → Type 0
IsHistory tells next turns ends from to = Leads (Takes tells next) turns ends from to

-- none of these turns is an update, or finds out what one would do
abbrev pub HasNoUpdate : List Turn → Type 0
HasNoUpdate [] = ⊤
HasNoUpdate (Deed deed ∷ turns) = HasNoUpdate turns
HasNoUpdate (Run words stop_after ∷ turns) = (BringsUp (order words) → ⊥) × HasNoUpdate turns

-- A site still tells what was there behind each of these turns behind which no update came: a crash since the moment of the
-- turn's end may have left it.
abbrev pub StillTells : (tells : Bool) (next : Next) (turns : List Turn) (ends : List End) (from to : Standing) → IsHistory tells next turns ends from to → MemSite → Type 0
StillTells tells next [] [] from to is site = ⊤
StillTells tells next (turn ∷ turns) (end ∷ ends) from to (mid, takes, history) site =
    (HasNoUpdate turns → left_since site end.moment (world_in mid.site)) × StillTells tells next turns ends mid to history site
StillTells tells next [] (end ∷ ends) from to none site = ⊥
StillTells tells next (turn ∷ turns) [] from to none site = ⊥

-- why a turn is refused: a deed as the site says, and a run never is
abbrev pub RefusesTurn : Turn → MemSite → MemRefused → Type 0
RefusesTurn (Deed deed) site why = Refuses deed site why
RefusesTurn (Run words stop_after) site why = ⊥

-- The turn at this place is refused for this reason; or it is the first, and there was no room to note the ends.
pub record IsRefusedAt (turns : List Turn) (at : ℕ) (site : MemSite) (why : MemRefused) : Type 0 where
  pub turn : Turn
  pub stands : slice_get turns at ≡ Some turn
  pub reason : RefusesTurn turn site why ⊎ ((at ≡ 0) × (why ≡ Memory))

-- all turns were carried out, or all up to one that was refused
abbrev pub StopsThere : List Turn → List End → MemSite → Option (ℕ × MemRefused) → Type 0
StopsThere turns ends site None = length ends ≡ length turns
StopsThere turns ends site (Some (at, why)) = (at ≡ length ends) × IsRefusedAt turns at site why

-- nothing happened, and nothing failed
pub record StandsAs (old new : Standing) : Type 0 where
  pub site : IsUntouched old.site new.site
  pub runners : new.runners ≡ old.runners
  pub commands : new.commands ≡ old.commands
  pub sink : new.sink ≡ old.sink
  pub held : new.held ≡ old.held

-- What became of these turns: those that have an end are a history, of which the site still tells. A turn that was refused
-- changed nothing, and those behind it weren't carried out.
pub record AreLived (tells : Bool) (next : Next) (turns : List Turn) (ends : List End) (refused : Option (ℕ × MemRefused)) (from to : Standing) : Type 0 where
  pub last : Standing
  pub history : IsHistory tells next (take (length ends) turns) ends from last
  pub told : StillTells tells next (take (length ends) turns) ends from last history to.site
  pub stops : StopsThere turns ends last.site refused
  pub stands : StandsAs last to

-- a run answered that all was done
abbrev pub AnswersDone : Option Status → Type 0
AnswersDone None = ⊥
AnswersDone (Some status) = SaysDone status
