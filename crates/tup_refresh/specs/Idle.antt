-- Readings that don't wait for each other in a circle (own): those that asked about no folder but their own wait for none, and each
-- other one waits for these and for earlier ones. Of which folder a question asks is told by its text alone, and which folders have
-- Tupfiles by whose readings are kept: so this is found without the sources.
use Rattle.std.specs.Prelude.{◌≡◌, ◌||◌, Bool, true, false, List, [], Option, Some, None, Ok, All, unwrap_or, IsSome}
use Rattle.std.specs.FinMap as finite
use Rattle.std.specs.List.{list_all}
use Rattle.std.specs.Ordering.{match_ordering}
use Rattle.std.specs.Result.{result_ok}
use Rattle.tup_path.specs.Name.{Names, Content}
use Rattle.tup_path.specs.Order.{by_names, same_path}
use Rattle.tup_path.specs.Resolve.{above}
use Rattle.tup_rule.specs.declared.question.Noted.{Noted}
use Rattle.tup_rule.specs.declared.question.Question.{Question}
use Rattle.tup_rule.specs.declared.question.Question.TheVariants as asks
use Rattle.tup_rule.specs.declared.question.Reading.{Reading}
use Rattle.tup_vars.specs.Config.{config_of}
use Rattle.tup_vars.specs.Table.{Entries}
use Rattle.tup_graph.specs.Answers.{IsAtOrAbove}
use Rattle.tup_graph.specs.Graph.{GraphState}
use Rattle.tup_refresh.specs.declared.refreshed.Refreshed.{Refreshed}

-- a folder is this one, or comes before it in the order of paths
abbrev pub up_to : Names → Names → Bool
up_to dir reader = match_ordering (by_names dir reader) true true false

-- the folder about whose files a question asks
abbrev pub asked_folder : Question → Option Names
asked_folder (asks.Content path) = None
asked_folder (asks.Config name) = None
asked_folder (asks.Names dir) = Some dir
asked_folder (asks.Kind path) = result_ok (above path)

-- whether that is the folder of the reading, where there is one
abbrev pub asks_own : Names → Question → Bool
asks_own reader question = elim (asked_folder question) [ Some dir ↦ same_path dir reader | None ↦ true ]

-- the same of all these
abbrev pub are_own : Names → List (Question × Noted) → Bool
are_own reader asked = list_all (λ (one : Question × Noted). asks_own reader one.0) asked

-- whether the reading of a folder, if it is kept, asked about no other folder: then it waits for none
abbrev pub keeps_own : GraphState → Names → Bool
keeps_own g dir = elim (finite.get g.readings dir) [ Some left ↦ are_own dir left.asked | None ↦ true ]

-- each folder at or above one whose reading is kept is that of a reader or comes before it, or its reading asked about no other
-- folder. So it is with the home of that folder
abbrev pub IsBack : GraphState → Names → Names → Type 0
IsBack g reader dir = (home : Names) → IsAtOrAbove home dir → IsSome (finite.get g.readings home) → (up_to home reader || keeps_own g home) ≡ true

-- a question of the reading of a folder asks about no other folder than such
abbrev pub AsksBack : GraphState → Names → Question → Type 0
AsksBack g reader question = (dir : Names) → asked_folder question ≡ Some dir → IsBack g reader dir

-- so do all of these
abbrev pub AreBack : GraphState → Names → List (Question × Noted) → Type 0
AreBack g reader asked = All (λ (one : Question × Noted). AsksBack g reader one.0) asked

-- and so did each reading that is kept
abbrev pub AllAskBack : GraphState → Type 0
AllAskBack g = (dir : Names) (left : Reading) → finite.get g.readings dir ≡ Some left → AreBack g dir left.asked

-- this content of tup.config has no fault
abbrev pub IsWellSet : Option Content → Type 0
IsWellSet config = (settings : Entries) × (config_of (unwrap_or config []) ≡ Ok settings)

-- no folder is flagged, tup.config has no fault, and no readings wait for each other in a circle
pub record IsIdle (g : GraphState) (config : Option Content) : Type 0 where
  pub created : g.created ≡ finite.empty
  pub settings : IsWellSet config
  pub back : AllAskBack g

-- what a refresh gives that brings nothing
abbrev pub idle : GraphState → Refreshed
idle g = record { all = finite.entries g.readings; fresh = []; gone = [] }
