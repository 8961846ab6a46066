-- The commands of a rule line, from the manual; where none is made is own.
use Rattle.std.specs.Prelude.{ℕ, ◌==◌, ◌&&◌, Bool, not, length, if◌then◌else◌, List, [], ◌∷◌, ◌++◌, map, fold, Option, Some, None, bytes_eq}
use Rattle.std.specs.List.{list_any}
use Rattle.tup_path.specs.Name.{Names}
use Rattle.tup_lex.specs.declared.kind.ParseKind.TheVariants.{BadCaret}
use Rattle.tup_rule.specs.declared.draft.Draft.{Draft}
use Rattle.tup_rule.specs.declared.draft.GroupRef.{GroupRef}
use Rattle.tup_rule.specs.declared.draft.Piece.{Piece}
use Rattle.tup_flags.specs.declared.parts.FlagParts.{FlagParts}
use Rattle.tup_flags.specs.declared.parts.Place.TheVariants as place
use Rattle.tup_macro.specs.Gifts.{GiftsTo, with_gift}
use Rattle.tup_query.specs.declared.fault.ParseFault.{ParseFault}
use Rattle.tup_rule_line.specs.declared.caret.Command.{Command}
use Rattle.tup_rule_line.specs.declared.found.Input.{Input}
use Rattle.tup_rule_line.specs.declared.job.Job.{Job}
use Rattle.tup_rule_line.specs.declared.job.Sources.{Sources}
use Rattle.tup_rule_line.specs.declared.job.Spoken.{Spoken}
use Rattle.tup_rule_line.specs.declared.state.State.{State}
use Rattle.tup_rule_line.specs.declared.words.Words.{Words}
use Rattle.tup_query.specs.Reads.{Reads, gives, and_then}
use Rattle.tup_query.specs.Spot.{Spot, refused}
use Rattle.tup_rule_line.specs.Folder.{is_group}
use Rattle.tup_rule_line.specs.Found.{paths_of}
use Rattle.tup_rule_line.specs.Flagged.{flagged}
use Rattle.tup_rule_line.specs.Output.{from_outputs}
use Rattle.tup_rule_line.specs.Caret.{command_of}

-- what the one input of a command matched
abbrev pub only_glob : List Input → Option (List ℕ)
only_glob (input ∷ []) = input.glob
only_glob _ = None

-- a command for one input alone
abbrev pub one_job : Input → Job
one_job input = record { inputs = input.path ∷ []; glob = input.glob }

-- a command for all inputs
abbrev pub whole_job : List Input → Job
whole_job inputs = record { inputs = paths_of inputs; glob = only_glob inputs }

-- whether words are there, none of them a group, and they give no file: then no command is made
abbrev pub gives_nothing : List (List ℕ) → List Input → Bool
gives_nothing words inputs = not (length words == 0) && length inputs == 0 && not (list_any is_group words)

-- the commands of a rule: one for each input, or one for all
abbrev pub jobs_of : Words → List Input → List Job
jobs_of words inputs =
    if words.foreach then map one_job inputs
    else if gives_nothing words.inputs inputs then []
    else whole_job inputs ∷ []

-- what flags stand for in a command before it has outputs
abbrev pub flag_parts : Spot → Bool → Sources → Job → FlagParts
flag_parts at foreach sources job =
    record {
      dir = at.dir;
      inputs = job.inputs;
      order = sources.order;
      outputs = [];
      foreach = foreach;
      glob = job.glob;
      groups = sources.groups;
      place = place.Outputs;
    }

-- what they stand for among its extra outputs, behind its outputs
abbrev pub in_extra : FlagParts → List Names → FlagParts
in_extra parts outputs = record parts { outputs = outputs; place = place.Extra }

-- what they stand for in its text
abbrev pub in_command : FlagParts → FlagParts
in_command parts = record parts { place = place.Command }

-- the command of a rule behind its carets
unfoldable pub with_carets : Spot → List ℕ → Reads ParseFault Command
with_carets at text = elim (command_of text) [ Some command ↦ gives command | None ↦ refused at BadCaret ]

-- what is shown in a command's place, with its flags put in
unfoldable pub shown : Spot → FlagParts → Option (List ℕ) → Reads ParseFault (Option (List Piece))
shown at parts None = gives None
shown at parts (Some text) = and_then (flagged at parts text) (λ pieces. gives (Some pieces))

-- what a command says, and what is shown in its place
unfoldable pub spoken : Spot → FlagParts → List ℕ → Reads ParseFault Spoken
spoken at parts text =
    and_then (with_carets at text)
    (λ command. and_then (flagged at parts command.text)
    (λ pieces. and_then (shown at parts command.display)
    (λ display. gives (record { pieces = pieces; display = display; compare = command.compare }))))

-- a command as a draft, by the file and the line of its rule, the group to which it gives, what its flags stand for, its
-- outputs and what it says
abbrev pub draft_in : Names → ℕ → Option GroupRef → FlagParts → List Names → Spoken → Draft
draft_in file line group parts outputs spoken =
    record {
      file = file;
      line = line;
      pieces = spoken.pieces;
      display = spoken.display;
      compare = spoken.compare;
      inputs = parts.inputs;
      order = parts.order;
      outputs = outputs;
      groups = parts.groups;
      gives = group;
    }

-- a draft as its place in a file says it: the file and the line come from there
abbrev pub draft_of : Spot → Option GroupRef → FlagParts → List Names → Spoken → Draft
draft_of at group parts outputs spoken = draft_in at.file at.line group parts outputs spoken

-- a command as a draft, by what its flags stand for in its text, and all its outputs
unfoldable pub with_text : Spot → Words → Option GroupRef → FlagParts → List Names → Reads ParseFault Draft
with_text at words group parts outputs = and_then (spoken at parts words.command) (λ said. gives (draft_of at group parts outputs said))

-- by what they stand for among its extra outputs, which come behind its outputs
unfoldable pub with_extra : Spot → Words → Option GroupRef → List Draft → FlagParts → Reads ParseFault Draft
with_extra at words group drafts parts =
    and_then (from_outputs at parts drafts parts.outputs words.extra) (λ all. with_text at words group (in_command parts) all)

-- by what they stand for before it has outputs
unfoldable pub with_outputs : Spot → Words → Option GroupRef → List Draft → FlagParts → Reads ParseFault Draft
with_outputs at words group drafts parts =
    and_then (from_outputs at parts drafts [] words.outputs) (λ plain. with_extra at words group drafts (in_extra parts plain))

-- a command as a draft: its outputs, its extra outputs, its text, what is shown
unfoldable pub drafted : Spot → Words → Sources → List Draft → Job → Reads ParseFault Draft
drafted at words sources drafts job = with_outputs at words sources.gives drafts (flag_parts at words.foreach sources job)

-- the bins with the outputs of a command given to one of them
abbrev pub with_gifts : GiftsTo (List ℕ) → Option (List ℕ) → List Names → GiftsTo (List ℕ)
with_gifts bins None outputs = bins
with_gifts bins (Some name) outputs = fold (λ all path. with_gift bytes_eq all name path) bins outputs

-- the state with one more rule
abbrev pub with_made : State → Draft → State
with_made state draft = record state { drafts = state.drafts ++ draft ∷ [] }

-- the same, and its outputs go to its bin
abbrev pub with_draft : State → Option (List ℕ) → Draft → State
with_draft state bin draft = record state { bins = with_gifts state.bins bin draft.outputs; drafts = state.drafts ++ draft ∷ [] }

-- the state with one command
unfoldable pub with_job : Spot → Words → Sources → State → Job → Reads ParseFault State
with_job at words sources state job =
    and_then (drafted at words sources state.drafts job) (λ draft. gives (with_draft state words.bin draft))

-- the state with commands one after another
unfoldable pub with_jobs : Spot → Words → Sources → State → List Job → Reads ParseFault State
with_jobs at words sources state [] = gives state
with_jobs at words sources state (job ∷ more) =
    and_then (with_job at words sources state job) (λ next. with_jobs at words sources next more)
