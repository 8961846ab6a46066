-- A rule line, from the manual; the order of refusals is own.
use Rattle.std.specs.Prelude.{ℕ, List, ◌++◌, Option, Some, None}
use Rattle.tup_lex.specs.declared.kind.ParseKind.TheVariants.{ForeignOutput}
use Rattle.tup_rule.specs.declared.draft.GroupRef.{GroupRef}
use Rattle.tup_query.specs.declared.fault.ParseFault.{ParseFault}
use Rattle.tup_rule_line.specs.declared.found.Found.{Found}
use Rattle.tup_rule_line.specs.declared.job.Sources.{Sources}
use Rattle.tup_rule_line.specs.declared.job.Plan.{Plan}
use Rattle.tup_rule_line.specs.declared.state.State.{State}
use Rattle.tup_rule_line.specs.declared.words.Words.{Words}
use Rattle.tup_query.specs.Reads.{Reads, gives, and_then}
use Rattle.tup_query.specs.Spot.{Spot}
use Rattle.tup_query.specs.Text.{expanded}
use Rattle.tup_rule_line.specs.Folder.{led_to_folder, group_in}
use Rattle.tup_rule_line.specs.Found.{paths_of, nothing_found}
use Rattle.tup_rule_line.specs.Input.{from_words}
use Rattle.tup_rule_line.specs.Words.{words_of}
use Rattle.tup_rule_line.specs.Job.{jobs_of, with_jobs}

-- the group to which a rule gives its outputs
unfoldable pub given_to : Spot → Option (List ℕ) → Reads ParseFault (Option GroupRef)
given_to at None = gives None
given_to at (Some word) = and_then (led_to_folder at ForeignOutput word) (λ dir. gives (Some (group_in dir word)))

-- what all commands of a rule share
abbrev pub sources_of : Found → Found → Option GroupRef → Sources
sources_of inputs order group = record { order = paths_of order.inputs; groups = inputs.groups ++ order.groups; gives = group }

-- what a rule's commands share, and the commands, by what its words give and the group to which it gives its outputs
abbrev pub plan_with : Words → Found → Found → Option GroupRef → Plan
plan_with words inputs order group = record { sources = sources_of inputs order group; jobs = jobs_of words inputs.inputs }

-- the same, once the input words and the order-only words were looked up: the group is what is left to look up
unfoldable pub plan_of : Spot → Words → Found → Found → Reads ParseFault Plan
plan_of at words inputs order = and_then (given_to at words.group) (λ group. gives (plan_with words inputs order group))

-- the same by its parts: its input words, its order-only words, and its group are looked up in this order
unfoldable pub planned : Spot → State → Words → Reads ParseFault Plan
planned at state words =
    and_then (from_words at state nothing_found words.inputs)
    (λ inputs. and_then (from_words at state nothing_found words.order) (λ order. plan_of at words inputs order))

-- the state with a rule's commands, by its parts
unfoldable pub with_words : Spot → State → Words → Reads ParseFault State
with_words at state words = and_then (planned at state words) (λ plan. with_jobs at words plan.sources state plan.jobs)

-- the parts of a rule line, with its variables put in and its macro filled in
unfoldable pub words_in : Spot → State → List ℕ → Reads ParseFault Words
words_in at state line = and_then (expanded at state.variables line) (λ text. words_of at state.macros text)

-- a rule line behind its colon
unfoldable pub ruled : Spot → State → List ℕ → Reads ParseFault State
ruled at state line = and_then (words_in at state line) (λ words. with_words at state words)
