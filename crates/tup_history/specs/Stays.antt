-- That a project stays kept, turn after turn. Own.
use Rattle.std.specs.Prelude.{⊤, Bool, IsTrue, List, [], ◌∷◌, length, take, Option, None, Some, Ok}
use Rattle.tup_path.specs.Name.{Names}
use Rattle.tup_site.specs.Memory.{world_in, moment_of, left_since}
use Rattle.tup_site.specs.World.{World}
use Rattle.tup_site.specs.declared.choice.Deed.TheVariants.{Edit, Crash}
use Rattle.tup_site.specs.declared.memory.MemSite.{MemSite}
use Rattle.tup_runner.specs.Next.{Next}
use Rattle.tup_law_graph.specs.Edited.{IsOwnedAlike}
use Rattle.tup_promise.specs.Finished.{ExactlyTheFiles}
use Rattle.tup_top.specs.Order.{Wanted, order}
use Rattle.tup_top.specs.declared.order.Order.TheVariants.{Init, Upd, Todo}
use Rattle.tup_top.specs.declared.status.Status.{Status}
use Rattle.tup_top.specs.Status.{IfCame}
use Rattle.tup_history.specs.History.{Standing, StandsAs, IsHistory, AnswersDone}
use Rattle.tup_history.specs.Kept.{Stage, Unbegun, Begun, Stands}
use Rattle.tup_history.specs.declared.turn.Turn.{Turn}
use Rattle.tup_history.specs.declared.turn.Turn.TheVariants.{Deed, Run}
use Rattle.tup_history.specs.declared.turn.End.{End}

-- ---- what is promised behind a turn, by how far the project had come before it

-- Behind an edit. Of one of a path that some of the worlds own which a crash now may leave, and others don't, nothing is said.
abbrev pub BehindEdit : Names → MemSite → Stage → (Stage → Type 0) → Type 0
BehindEdit path site Unbegun promise = promise Unbegun
BehindEdit path site Begun promise = IsOwnedAlike (world_in site) (left_since site (moment_of site)) path → promise Begun

-- behind a beginning; of one that couldn't be done nothing is said
abbrev pub BehindInit : End → Stage → (Stage → Type 0) → Type 0
BehindInit end Unbegun promise = AnswersDone end.status → promise Begun
BehindInit end Begun promise = promise Begun

-- an update that is answered so leaves exactly the files of a clean build, where it is done
abbrev pub Builds : Next → World → World → Option Status → Type 0
Builds next old new None = ⊤
Builds next old new (Some status) = IfCame status (ExactlyTheFiles next old new)

-- Behind an update that led from one world to another, where the runner tells what commands mean. Where the project hasn't begun
-- nothing is done.
abbrev pub BehindUpdate : Bool → Next → World → World → End → Stage → (Stage → Type 0) → Type 0
BehindUpdate tells next old new end Unbegun promise = promise Unbegun
BehindUpdate tells next old new end Begun promise = IsTrue tells → Builds next old new end.status × promise Begun

-- behind a call that finds out what an update would do; where the project hasn't begun nothing is done
abbrev pub BehindTodo : Bool → Stage → (Stage → Type 0) → Type 0
BehindTodo tells Unbegun promise = promise Unbegun
BehindTodo tells Begun promise = IsTrue tells → promise Begun

-- behind a run of the program
abbrev pub BehindRun : Bool → Next → Wanted → World → World → End → Stage → (Stage → Type 0) → Type 0
BehindRun tells next (Ok (Upd program keep_going quiet verbose explain jobs log)) old new end stage promise = BehindUpdate tells next old new end stage promise
BehindRun tells next (Ok Todo) old new end stage promise = BehindTodo tells stage promise
BehindRun tells next (Ok Init) old new end stage promise = BehindInit end stage promise
BehindRun tells next other old new end stage promise = promise stage

-- behind a turn that led from one site to another
abbrev pub Behind : Bool → Next → Turn → End → MemSite → MemSite → Stage → (Stage → Type 0) → Type 0
Behind tells next (Deed (Edit path content)) end old new stage promise = BehindEdit path old stage promise
Behind tells next (Deed (Crash choice)) end old new stage promise = promise stage
Behind tells next (Run words stop_after) end old new stage promise = BehindRun tells next (order words) (world_in old) (world_in new) end stage promise

-- ---- turn after turn

-- behind each turn the project stands so, and this is promised behind the last
abbrev pub StaysKept : (tells : Bool) (next : Next) (turns : List Turn) (ends : List End) (from to : Standing) → IsHistory tells next turns ends from to → Stage → (Stage → Type 0) → Type 0
StaysKept tells next [] [] from to is stage promise = promise stage
StaysKept tells next (turn ∷ turns) (end ∷ ends) from to (mid, takes, history) stage promise =
    Behind tells next turn end from.site mid.site stage (λ later. Stands next later mid.site × StaysKept tells next turns ends mid to history later promise)
StaysKept tells next [] (end ∷ ends) from to none stage promise = ⊥
StaysKept tells next (turn ∷ turns) [] from to none stage promise = ⊥

-- The turns that have an end are a history, behind each of whose turns the project stands so, and so it does at the end. Each update
-- among them that is done left exactly the files of a clean build.
pub record AreKept (tells : Bool) (next : Next) (turns : List Turn) (ends : List End) (from to : Standing) (stage : Stage) : Type 0 where
  pub last : Standing
  pub history : IsHistory tells next (take (length ends) turns) ends from last
  pub stays : StaysKept tells next (take (length ends) turns) ends from last history stage (λ later. Stands next later to.site)
  pub stands : StandsAs last to
