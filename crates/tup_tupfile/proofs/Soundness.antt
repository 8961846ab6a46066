-- The rules of every reading can be run in the order of their lines.
use Rattle.std.proofs.Common.{◌≡◌, ℕ, zero, suc, ◌+◌, Bool, true, false, if◌then◌else◌, List, [], ◌∷◌, ◌++◌, Option, Some, None, Result, All, codes, refl}
use Rattle.std.proofs.lemmas.List.Elements.{All-nil}
use Rattle.tup_path.specs.Name.{Names, Content}
use Rattle.tup_lex.specs.Blank.{trim}
use Rattle.tup_lex.specs.declared.line.Line.{Line}
use Rattle.tup_lex.specs.declared.kind.ParseKind.TheVariants as fault
use Rattle.tup_rule.specs.declared.question.Question.{Question}
use Rattle.tup_rule.specs.declared.question.Told.{Told}
use Rattle.tup_vars.specs.declared.fault.VarFault.{VarFault}
use Rattle.tup_vars.specs.Table.{Entries}
use Rattle.tup_vars.specs.declared.branches.Level.{Level}
use Rattle.tup_vars.specs.Branches.{entered, turned, left, all_on}
use Rattle.tup_query.specs.declared.fault.ParseFault.{ParseFault}
use Rattle.tup_tupfile.specs.declared.file.Held.{Held}
use Rattle.tup_tupfile.specs.declared.opening.Along.{Along}
use Rattle.tup_rule_line.specs.declared.state.State.{State}
use Rattle.tup_query.specs.Reads.{Reads, gives, and_then}
use Rattle.tup_query.specs.Spot.{Spot}
use Rattle.tup_rule_line.specs.State.{is_made}
use Rattle.tup_query.specs.Text.{taken}
use Rattle.tup_rule_line.specs.State.{fresh}
use Rattle.tup_query.specs.Spot.{spot}
use Rattle.tup_query.specs.Text.{var_kind, expanded}
use Rattle.tup_tupfile.specs.Setting.{set_name, goes_on, put_value, with_value, value_of, assigned}
use Rattle.tup_tupfile.specs.Conditional.{compares, looked_up}
use Rattle.tup_tupfile.specs.Opening.{along, at_levels, opening}
use Rattle.tup_tupfile.specs.File.{held_in, included_file, lines_of, ended}
use Rattle.tup_tupfile.specs.Kind as kinds
use Rattle.tup_tupfile.specs.Kind.{Compares, Looks, Else, Endif, Complains, IncludesRules, Includes, Rules, Defines, Sets, Unknown, kind_of}
use Rattle.tup_tupfile.specs.Reading.{Opener, opened, included, ruled_by, ruled_below, ruled_down, complained, stated, plain_line, with_kind, with_lines, with_file, with_room, drafts_in, reading}
use Rattle.tup_rule_line.specs.Sound.{NamesFiles, AreSound}
use Rattle.tup_tupfile.proofs.Files.{by_levels}
use Rattle.tup_tupfile.proofs.Openings.{tested}
use Rattle.tup_tupfile.proofs.Lines.{behind_lines, behind_stated, behind_file, if_there, behind_top, behind_said, drafts_behind, if_found}
use Rattle.tup_rule_line.proofs.Soundness.{Brings, IsSoundState, brings_then, brings_behind, brings_gives, brings_refused, brings_ruled, same-sound, brings_defined}

-- ---- lines
brings_assigned : (answers : Question → Told) (at : Spot) (state : State) (left right : List ℕ) → IsSoundState answers at.dir state → Brings answers (assigned at state left right) (IsSoundState answers at.dir)
unfolding assigned with_value
brings_assigned answers at state left right is =
    brings_behind answers (value_of at state.variables (set_name left) (trim right)) (λ value. with_value at state (set_name left) (goes_on left) value) (IsSoundState answers at.dir)
    (λ value. brings_behind answers (taken at var_kind (put_value state.variables (set_name left) (goes_on left) value)) (λ variables. gives (record state { variables = variables })) (IsSoundState answers at.dir)
    (λ variables. brings_gives answers (record state { variables = variables }) (IsSoundState answers at.dir) (same-sound answers at.dir state (record state { variables = variables }) refl refl is)))

-- ---- files
-- an included file is read so
abbrev pub OpensSound : (Question → Told) → Names → Opener → Type 0
OpensSound answers dir None = Unit {0}
OpensSound answers dir (Some reads) = (path : Names) (state : State) (content : Content) → IsSoundState answers dir state → Brings answers (reads path state content) (IsSoundState answers dir)

brings_opened : (answers : Question → Told) (opener : Opener) (at : Spot) (state : State) (held : Held) → OpensSound answers at.dir opener → IsSoundState answers at.dir state
    → Brings answers (opened opener at state held) (IsSoundState answers at.dir)
unfolding opened
brings_opened answers None at state held opens is = brings_refused State answers at fault.TooDeep (IsSoundState answers at.dir)
brings_opened answers (Some reads) at state held opens is = opens held.path state held.content is

brings_included : (answers : Question → Told) (opener : Opener) (at : Spot) (state : State) (text : List ℕ) → OpensSound answers at.dir opener → IsSoundState answers at.dir state
    → Brings answers (included opener at state text) (IsSoundState answers at.dir)
unfolding included
brings_included answers opener at state text opens is =
    brings_behind answers (included_file at state.variables text) (behind_file opener at state) (IsSoundState answers at.dir) (λ held. brings_opened answers opener at state held opens is)

brings_ruled_by : (answers : Question → Told) (opener : Opener) (at : Spot) (state : State) (folder : Names) → OpensSound answers at.dir opener → IsSoundState answers at.dir state
    → Brings answers (ruled_by opener at state folder) (IsSoundState answers at.dir)
unfolding ruled_by
brings_ruled_by answers opener at state folder opens is =
    brings_behind answers (held_in folder (codes "Tuprules.tup")) (if_there opener at state) (IsSoundState answers at.dir) by
  where
    by : (found : Option Held) → Brings answers (if_there opener at state found) (IsSoundState answers at.dir)
    by (Some held) = brings_opened answers opener at state held opens is
    by None = brings_gives answers state (IsSoundState answers at.dir) is

brings_below : (answers : Question → Told) (opener : Opener) (at : Spot) (state : State) (folder names : Names) → OpensSound answers at.dir opener → IsSoundState answers at.dir state
    → Brings answers (ruled_below opener at state folder names) (IsSoundState answers at.dir)
unfolding ruled_below
brings_below answers opener at state folder [] opens is = brings_gives answers state (IsSoundState answers at.dir) is
brings_below answers opener at state folder (name ∷ names) opens is =
    brings_then answers (ruled_by opener at state (folder ++ name ∷ [])) (λ next. ruled_below opener at next (folder ++ name ∷ []) names) (IsSoundState answers at.dir) (IsSoundState answers at.dir)
    (brings_ruled_by answers opener at state (folder ++ name ∷ []) opens is) (λ next on. brings_below answers opener at next (folder ++ name ∷ []) names opens on)

brings_down : (answers : Question → Told) (opener : Opener) (at : Spot) (state : State) → OpensSound answers at.dir opener → IsSoundState answers at.dir state
    → Brings answers (ruled_down opener at state) (IsSoundState answers at.dir)
unfolding ruled_down
brings_down answers opener at state opens is =
    brings_then answers (ruled_by opener at state []) (behind_top opener at) (IsSoundState answers at.dir) (IsSoundState answers at.dir)
    (brings_ruled_by answers opener at state [] opens is) (λ next on. brings_below answers opener at next [] at.dir opens on)

brings_complained : (answers : Question → Told) (at : Spot) (variables : Entries) (text : List ℕ) → Brings answers (complained at variables text) (IsSoundState answers at.dir)
unfolding complained
brings_complained answers at variables text =
    brings_behind answers (expanded at variables text) (behind_said at) (IsSoundState answers at.dir) (λ said. brings_refused State answers at (fault.UserError said) (IsSoundState answers at.dir))

brings_stated : (answers : Question → Told) (opener : Opener) (at : Spot) (state : State) (text : kinds.Kind) → NamesFiles answers → OpensSound answers at.dir opener → IsSoundState answers at.dir state
    → Brings answers (stated opener at state text) (IsSoundState answers at.dir)
unfolding stated
brings_stated answers opener at state (Complains text) files opens is = brings_complained answers at state.variables text
brings_stated answers opener at state IncludesRules files opens is = brings_down answers opener at state opens is
brings_stated answers opener at state (Includes text) files opens is = brings_included answers opener at state text opens is
brings_stated answers opener at state (Rules text) files opens is = brings_ruled answers at state text files is
brings_stated answers opener at state (Defines name body) files opens is = brings_defined answers at state name body is
brings_stated answers opener at state (Sets name value) files opens is = brings_assigned answers at state name value is
brings_stated answers opener at state (Compares alike text) files opens is = brings_refused State answers at fault.UnknownLine (IsSoundState answers at.dir)
brings_stated answers opener at state (Looks wanted name) files opens is = brings_refused State answers at fault.UnknownLine (IsSoundState answers at.dir)
brings_stated answers opener at state Else files opens is = brings_refused State answers at fault.UnknownLine (IsSoundState answers at.dir)
brings_stated answers opener at state Endif files opens is = brings_refused State answers at fault.UnknownLine (IsSoundState answers at.dir)
brings_stated answers opener at state Unknown files opens is = brings_refused State answers at fault.UnknownLine (IsSoundState answers at.dir)

abbrev pub SoundAlong : (Question → Told) → Names → Along → Type 0
SoundAlong answers dir before = IsSoundState answers dir before.state

brings_levels : (answers : Question → Told) (at : Spot) (state : State) (levels : Result (List Level) VarFault) → IsSoundState answers at.dir state → Brings answers (at_levels at state levels) (SoundAlong answers at.dir)
unfolding at_levels
brings_levels answers at state levels is =
    brings_behind answers (taken at var_kind levels) (λ next. gives (along next state)) (SoundAlong answers at.dir) (λ next. brings_gives answers (along next state) (SoundAlong answers at.dir) is)

brings_opening : (answers : Question → Told) (at : Spot) (before : Along) (test : Reads ParseFault Bool) → SoundAlong answers at.dir before → Brings answers (opening at before test) (SoundAlong answers at.dir)
unfolding opening
brings_opening answers at before test is =
    brings_behind answers (if all_on before.levels then test else gives false) (tested at before) (SoundAlong answers at.dir) (λ on. brings_levels answers at before.state (entered before.levels at.line on) is)

brings_plain : (answers : Question → Told) (opener : Opener) (at : Spot) (before : Along) (text : kinds.Kind) → NamesFiles answers → OpensSound answers at.dir opener → SoundAlong answers at.dir before
    → Brings answers (plain_line opener at before text) (SoundAlong answers at.dir)
unfolding plain_line
brings_plain answers opener at before text files opens is = by (all_on before.levels)
  where
    by : (on : Bool) → Brings answers (if on then and_then (stated opener at before.state text) (behind_stated before) else gives before) (SoundAlong answers at.dir)
    by false = brings_gives answers before (SoundAlong answers at.dir) is
    by true =
        brings_then answers (stated opener at before.state text) (behind_stated before) (IsSoundState answers at.dir) (SoundAlong answers at.dir)
        (brings_stated answers opener at before.state text files opens is) (λ next on. brings_gives answers (along before.levels next) (SoundAlong answers at.dir) on)

brings_line : (answers : Question → Told) (opener : Opener) (at : Spot) (before : Along) (text : kinds.Kind) → NamesFiles answers → OpensSound answers at.dir opener → SoundAlong answers at.dir before
    → Brings answers (with_kind opener at before text) (SoundAlong answers at.dir)
unfolding with_kind
brings_line answers opener at before (Compares alike text) files opens is = brings_opening answers at before (compares at before.state.variables alike text) is
brings_line answers opener at before (Looks wanted name) files opens is = brings_opening answers at before (looked_up at wanted name) is
brings_line answers opener at before Else files opens is = brings_levels answers at before.state (turned before.levels) is
brings_line answers opener at before Endif files opens is = brings_levels answers at before.state (left before.levels) is
brings_line answers opener at before (Complains text) files opens is = brings_plain answers opener at before (Complains text) files opens is
brings_line answers opener at before IncludesRules files opens is = brings_plain answers opener at before IncludesRules files opens is
brings_line answers opener at before (Includes text) files opens is = brings_plain answers opener at before (Includes text) files opens is
brings_line answers opener at before (Rules text) files opens is = brings_plain answers opener at before (Rules text) files opens is
brings_line answers opener at before (Defines name body) files opens is = brings_plain answers opener at before (Defines name body) files opens is
brings_line answers opener at before (Sets name value) files opens is = brings_plain answers opener at before (Sets name value) files opens is
brings_line answers opener at before Unknown files opens is = brings_plain answers opener at before Unknown files opens is

brings_ended : (answers : Question → Told) (dir file : Names) (before : Along) → SoundAlong answers dir before → Brings answers (ended dir file before) (IsSoundState answers dir)
unfolding ended
brings_ended answers dir file before is = by before.levels
  where
    by : (levels : List Level) → Brings answers (by_levels dir file before.state levels) (IsSoundState answers dir)
    by [] = brings_gives answers before.state (IsSoundState answers dir) is
    by (outermost ∷ more) = brings_refused State answers (spot dir file outermost.line) fault.MissingEndif (IsSoundState answers dir)

brings_lines : (answers : Question → Told) (opener : Opener) (dir file : Names) (before : Along) (lines : List Line) → NamesFiles answers → OpensSound answers dir opener → SoundAlong answers dir before
    → Brings answers (with_lines opener dir file before lines) (IsSoundState answers dir)
unfolding with_lines
brings_lines answers opener dir file before [] files opens is = brings_ended answers dir file before is
brings_lines answers opener dir file before (line ∷ more) files opens is =
    brings_then answers (with_kind opener (spot dir file line.number) before (kind_of line.text)) (λ next. with_lines opener dir file next more) (SoundAlong answers dir) (IsSoundState answers dir)
    (brings_line answers opener (spot dir file line.number) before (kind_of line.text) files opens is) (λ next on. brings_lines answers opener dir file next more files opens on)

brings_file : (answers : Question → Told) (opener : Opener) (dir file : Names) (state : State) (content : Content) → NamesFiles answers → OpensSound answers dir opener → IsSoundState answers dir state
    → Brings answers (with_file opener dir file state content) (IsSoundState answers dir)
unfolding with_file
brings_file answers opener dir file state content files opens is =
    brings_behind answers (lines_of dir file content) (behind_lines opener dir file state) (IsSoundState answers dir) (λ all. brings_lines answers opener dir file (along [] state) all files opens is)

brings_room : (answers : Question → Told) (room : ℕ) (dir file : Names) (state : State) (content : Content) → NamesFiles answers → IsSoundState answers dir state
    → Brings answers (with_room room dir file state content) (IsSoundState answers dir)
unfolding with_room
brings_room answers zero dir file state content files is = brings_file answers None dir file state content files tt is
brings_room answers (suc room) dir file state content files is =
    brings_file answers (Some (with_room room dir)) dir file state content files (λ path next bytes on. brings_room answers room dir path next bytes files on) is

-- ---- the Tupfile
pub reading-sound : (answers : Question → Told) (dir : Names) → NamesFiles answers → Brings answers (reading dir) (AreSound answers dir [])
unfolding reading drafts_in
reading-sound answers dir files = brings_behind answers (held_in dir (codes "Tupfile")) (if_found dir) (AreSound answers dir []) by
  where
    begun : IsSoundState answers dir fresh
    begun = record { drafts = tt; bins = All-nil (λ (g : List ℕ × List Names). All (λ path. is_made [] path ≡ true) g.1) }

    by : (found : Option Held) → Brings answers (if_found dir found) (AreSound answers dir [])
    by None = brings_gives answers [] (AreSound answers dir []) tt
    by (Some held) =
        brings_then answers (with_room 63 dir held.path fresh held.content) drafts_behind (IsSoundState answers dir) (AreSound answers dir [])
        (brings_room answers 63 dir held.path fresh held.content files begun) (λ state is. brings_gives answers state.drafts (AreSound answers dir []) is.drafts)
