-- The commands of a rule line, one after another.
use Rattle.std.proofs.Common.{◌≡◌, ℕ, ◌+◌, ◌<◌, ◌≤◌, List, [], length, get_or, drop, Option, Some, None, refl, sym, ap, ◌∙◌}
use Rattle.std.proofs.lemmas.List.{at_drop_more, at_drop_all}
use Rattle.tup_path.specs.Name.{Names}
use Rattle.tup_lex.specs.declared.kind.ParseKind.TheVariants.{BadCaret}
use Rattle.tup_rule.specs.declared.draft.Draft.{Draft}
use Rattle.tup_rule.specs.declared.draft.GroupRef.{GroupRef}
use Rattle.tup_rule.specs.declared.draft.Piece.{Piece}
use Rattle.tup_flags.specs.declared.parts.FlagParts.{FlagParts}
use Rattle.tup_query.specs.declared.fault.ParseFault.{ParseFault}
use Rattle.tup_rule_line.specs.declared.caret.Command.{Command}
use Rattle.tup_rule_line.specs.declared.job.Job.{Job}
use Rattle.tup_rule_line.specs.declared.job.Sources.{Sources}
use Rattle.tup_rule_line.specs.declared.job.Spoken.{Spoken}
use Rattle.tup_rule_line.specs.declared.state.State.{State}
use Rattle.tup_rule_line.specs.declared.words.Words.{Words}
use Rattle.tup_query.specs.Reads.{Reads, gives, and_then}
use Rattle.tup_query.specs.Spot.{Spot, refused}
use Rattle.tup_rule_line.specs.Caret.{command_of}
use Rattle.tup_rule_line.specs.Flagged.{flagged}
use Rattle.tup_rule_line.specs.Output.{from_outputs}
use Rattle.tup_rule_line.specs.Job.{flag_parts, in_extra, in_command, with_carets, shown, spoken, draft_of, with_text, with_extra, with_outputs, drafted, with_draft, with_job, with_jobs}

pub jobs_more : (at : Spot) (words : Words) (sources : Sources) (state : State) (jobs : List Job) (index : ℕ) (job : Job) → index < length jobs → job ≡ get_or jobs index job
    → with_jobs at words sources state (drop index jobs) ≡ and_then (with_job at words sources state job) (λ next. with_jobs at words sources next (drop (index + 1) jobs))
unfolding with_jobs
jobs_more at words sources state jobs index job within is =
    at_drop_more (with_jobs at words sources state) jobs index job within
    ∙ ap (λ (j : Job). and_then (with_job at words sources state j) (λ next. with_jobs at words sources next (drop (index + 1) jobs))) (sym is)

pub jobs_end : (at : Spot) (words : Words) (sources : Sources) (state : State) (jobs : List Job) (index : ℕ) → length jobs ≤ index → with_jobs at words sources state (drop index jobs) ≡ gives state
unfolding with_jobs
jobs_end at words sources state jobs index past = at_drop_all (with_jobs at words sources state) jobs index past

-- what comes of a command behind its draft, and of the draft behind its text, its extra outputs and its outputs
abbrev pub behind_draft : State → Option (List ℕ) → Draft → Reads ParseFault State
behind_draft state bin draft = gives (with_draft state bin draft)

pub job_by : (at : Spot) (words : Words) (sources : Sources) (state : State) (job : Job) → with_job at words sources state job ≡ and_then (drafted at words sources state.drafts job) (behind_draft state words.bin)
unfolding with_job
job_by at words sources state job = refl

pub drafted_by : (at : Spot) (words : Words) (sources : Sources) (drafts : List Draft) (job : Job) → drafted at words sources drafts job ≡ with_outputs at words sources.gives drafts (flag_parts at words.foreach sources job)
unfolding drafted
drafted_by at words sources drafts job = refl

abbrev pub behind_plain : Spot → Words → Option GroupRef → List Draft → FlagParts → List Names → Reads ParseFault Draft
behind_plain at words group drafts parts plain = with_extra at words group drafts (in_extra parts plain)

pub outputs_by : (at : Spot) (words : Words) (group : Option GroupRef) (drafts : List Draft) (parts : FlagParts)
    → with_outputs at words group drafts parts ≡ and_then (from_outputs at parts drafts [] words.outputs) (behind_plain at words group drafts parts)
unfolding with_outputs
outputs_by at words group drafts parts = refl

abbrev pub behind_all : Spot → Words → Option GroupRef → FlagParts → List Names → Reads ParseFault Draft
behind_all at words group parts all = with_text at words group (in_command parts) all

pub extra_by : (at : Spot) (words : Words) (group : Option GroupRef) (drafts : List Draft) (parts : FlagParts)
    → with_extra at words group drafts parts ≡ and_then (from_outputs at parts drafts parts.outputs words.extra) (behind_all at words group parts)
unfolding with_extra
extra_by at words group drafts parts = refl

abbrev pub behind_said : Spot → Option GroupRef → FlagParts → List Names → Spoken → Reads ParseFault Draft
behind_said at group parts outputs said = gives (draft_of at group parts outputs said)

pub text_by : (at : Spot) (words : Words) (group : Option GroupRef) (parts : FlagParts) (outputs : List Names)
    → with_text at words group parts outputs ≡ and_then (spoken at parts words.command) (behind_said at group parts outputs)
unfolding with_text
text_by at words group parts outputs = refl

pub carets-some : (at : Spot) (text : List ℕ) (command : Command) → command_of text ≡ Some command → with_carets at text ≡ gives command
unfolding with_carets
carets-some at text command e = ap (λ (found : Option Command). elim found as (λ _. Reads ParseFault Command) [ Some command ↦ gives command | None ↦ refused at BadCaret ]) e

pub carets-none : (at : Spot) (text : List ℕ) → command_of text ≡ None → with_carets at text ≡ refused at BadCaret
unfolding with_carets
carets-none at text e = ap (λ (found : Option Command). elim found as (λ _. Reads ParseFault Command) [ Some command ↦ gives command | None ↦ refused at BadCaret ]) e

-- what comes of a command's text behind its carets, behind its pieces, and behind what is shown
abbrev pub behind_display : Command → List Piece → Option (List Piece) → Reads ParseFault Spoken
behind_display command pieces display = gives (record { pieces = pieces; display = display; compare = command.compare })

abbrev pub behind_pieces : Spot → FlagParts → Command → List Piece → Reads ParseFault Spoken
behind_pieces at parts command pieces = and_then (shown at parts command.display) (behind_display command pieces)

abbrev pub behind_command : Spot → FlagParts → Command → Reads ParseFault Spoken
behind_command at parts command = and_then (flagged at parts command.text) (behind_pieces at parts command)
