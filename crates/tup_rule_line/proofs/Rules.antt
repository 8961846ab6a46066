-- Rule lines and macro lines, case by case.
use Rattle.std.proofs.Common.{◌≡◌, ℕ, Bool, true, false, if◌then◌else◌, List, [], ◌∷◌, ◌++◌, Option, Some, None, is_some, IsSome, ◌↔◌, Result, Ok, Err, refl, sym, ap, ◌∙◌}
use Rattle.tup_path.specs.Name.{Names}
use Rattle.tup_lex.specs.Blank.{trim}
use Rattle.tup_lex.specs.declared.kind.ParseKind.TheVariants as kind
use Rattle.tup_rule.specs.declared.draft.GroupRef.{GroupRef}
use Rattle.tup_vars.specs.Name.{is_name}
use Rattle.tup_vars.specs.Table.{Entries}
use Rattle.tup_macro.specs.Macros.{Definitions, macro_of}
use Rattle.tup_macro.specs.declared.macros.Macro.{Macro}
use Rattle.tup_macro.specs.declared.fault.MacroFault.{MacroFault}
use Rattle.tup_macro.specs.declared.fault.MacroFault.TheVariants.{DefinedTwice}
use Rattle.tup_query.specs.declared.fault.ParseFault.{ParseFault}
use Rattle.tup_rule_line.specs.declared.found.Found.{Found}
use Rattle.tup_rule_line.specs.declared.job.Plan.{Plan}
use Rattle.tup_rule_line.specs.declared.state.State.{State}
use Rattle.tup_rule_line.specs.declared.words.Words.{Words}
use Rattle.tup_query.specs.Reads.{Reads, gives, and_then}
use Rattle.tup_query.specs.Spot.{Spot, refused}
use Rattle.tup_query.specs.Text.{expanded}
use Rattle.tup_rule_line.specs.Folder.{led_to_folder, group_in}
use Rattle.tup_rule_line.specs.Found.{nothing_found}
use Rattle.tup_rule_line.specs.Input.{from_words}
use Rattle.tup_rule_line.specs.Job.{with_jobs}
use Rattle.tup_rule_line.specs.RuleLine.{given_to, plan_with, plan_of, planned, with_words, words_in, ruled}
use Rattle.tup_rule_line.specs.Words.{cut, words_of}
use Rattle.tup_rule_line.specs.MacroLine.{is_body, body_of, only_body, named_body, body_in, one_more, with_body, defined}

-- ---- rule lines
-- what comes of a rule's words behind the group to which it gives
abbrev pub behind_group : Words → Found → Found → Option GroupRef → Reads ParseFault Plan
behind_group words inputs order group = gives (plan_with words inputs order group)

pub plan_by : (at : Spot) (words : Words) (inputs order : Found) → plan_of at words inputs order ≡ and_then (given_to at words.group) (behind_group words inputs order)
unfolding plan_of
plan_by at words inputs order = refl

-- what comes of a rule's parts behind its order-only words, and behind its input words
abbrev pub behind_order : Spot → Words → Found → Found → Reads ParseFault Plan
behind_order at words inputs order = plan_of at words inputs order

abbrev pub behind_inputs : Spot → State → Words → Found → Reads ParseFault Plan
behind_inputs at state words inputs = and_then (from_words at state nothing_found words.order) (behind_order at words inputs)

pub planned_by : (at : Spot) (state : State) (words : Words) → planned at state words ≡ and_then (from_words at state nothing_found words.inputs) (behind_inputs at state words)
unfolding planned
planned_by at state words = refl

-- what comes of a rule's commands
abbrev pub behind_plan : Spot → State → Words → Plan → Reads ParseFault State
behind_plan at state words plan = with_jobs at words plan.sources state plan.jobs

pub words_by : (at : Spot) (state : State) (words : Words) → with_words at state words ≡ and_then (planned at state words) (behind_plan at state words)
unfolding with_words
words_by at state words = refl

-- what comes of a rule line's text, and of its parts
abbrev pub behind_line : Spot → State → List ℕ → Reads ParseFault Words
behind_line at state text = words_of at state.macros text

pub words_in_by : (at : Spot) (state : State) (line : List ℕ) → words_in at state line ≡ and_then (expanded at state.variables line) (behind_line at state)
unfolding words_in
words_in_by at state line = refl

abbrev pub behind_words : Spot → State → Words → Reads ParseFault State
behind_words at state words = with_words at state words

pub line_by : (at : Spot) (state : State) (line : List ℕ) → ruled at state line ≡ and_then (words_in at state line) (behind_words at state)
unfolding ruled
line_by at state line = refl

pub given-none : (at : Spot) (word : Option (List ℕ)) → word ≡ None → given_to at word ≡ gives None
unfolding given_to
given-none at word e = ap (given_to at) e

-- what comes of the folder of a group
abbrev pub behind_folder : List ℕ → Names → Reads ParseFault (Option GroupRef)
behind_folder word dir = gives (Some (group_in dir word))

pub given-some : (at : Spot) (word : Option (List ℕ)) (name : List ℕ) → word ≡ Some name → given_to at word ≡ and_then (led_to_folder at kind.ForeignOutput name) (behind_folder name)
unfolding given_to
given-some at word name e = ap (given_to at) e

-- ---- macro lines
-- what comes of a macro that may be there already
abbrev pub by_there : Spot → Definitions → List ℕ → Macro → Bool → Reads ParseFault Definitions
by_there at macros name body there = if there then refused at kind.DefinedTwice else gives (macros ++ (name, body) ∷ [])

more-new : (at : Spot) (macros : Definitions) (name : List ℕ) (body : Macro) → is_some (macro_of macros name) ≡ false → one_more at macros name body ≡ gives (macros ++ (name, body) ∷ [])
unfolding one_more
more-new at macros name body new = ap (by_there at macros name body) new

pub more-twice : (at : Spot) (macros : Definitions) (name : List ℕ) (body : Macro) → is_some (macro_of macros name) ≡ true → one_more at macros name body ≡ refused at kind.DefinedTwice
unfolding one_more
more-twice at macros name body there = ap (by_there at macros name body) there

-- whether a name has a macro
pub not-there : (found : Option Macro) (ended : Result (Unit {0}) MacroFault) → ended ≡ Ok tt → (ended ≡ Err DefinedTwice) ↔ IsSome found → is_some found ≡ false
not-there None ended ok twice = refl
not-there (Some body) ended ok twice = let same : ended ≡ Err DefinedTwice = twice.1 refl in absurd (cc)

-- a macro that is kept
pub more-kept : (at : Spot) (macros : Definitions) (name : List ℕ) (body : Macro) (after : Definitions) → is_some (macro_of macros name) ≡ false
    → after ≡ macros ++ (name, body) ∷ [] → one_more at macros name body ≡ gives after
more-kept at macros name body after new kept = more-new at macros name body new ∙ ap (λ (m : Definitions). gives m) (sym kept)

-- the macro that words are
pub body-bad : (at : Spot) (words : Words) → is_body words ≡ false → only_body at words ≡ refused at kind.BadBrace
unfolding only_body
body-bad at words e = ap (λ b. if b then gives (body_of words) else refused at kind.BadBrace) e

pub body-good : (at : Spot) (words : Words) → is_body words ≡ true → only_body at words ≡ gives (body_of words)
unfolding only_body
body-good at words e = ap (λ b. if b then gives (body_of words) else refused at kind.BadBrace) e

-- what comes of a macro line's parts
abbrev pub behind_cut : Spot → Words → Reads ParseFault Macro
behind_cut at words = only_body at words

pub name-bad : (at : Spot) (name text : List ℕ) → is_name name ≡ false → named_body at name text ≡ refused at kind.BadName
unfolding named_body
name-bad at name text e = ap (λ b. if b then and_then (cut at text) (behind_cut at) else refused at kind.BadName) e

pub name-good : (at : Spot) (name text : List ℕ) → is_name name ≡ true → named_body at name text ≡ and_then (cut at text) (behind_cut at)
unfolding named_body
name-good at name text e = ap (λ b. if b then and_then (cut at text) (behind_cut at) else refused at kind.BadName) e

-- what comes of a macro line's text, of the macro, and of the macros with it
abbrev pub behind_text : Spot → List ℕ → List ℕ → Reads ParseFault Macro
behind_text at name text = named_body at name text

pub body_by : (at : Spot) (variables : Entries) (name right : List ℕ) → body_in at variables name right ≡ and_then (expanded at variables right) (behind_text at name)
unfolding body_in
body_by at variables name right = refl

abbrev pub behind_body : Spot → State → List ℕ → Macro → Reads ParseFault State
behind_body at state name body = with_body at state name body

pub defined_by : (at : Spot) (state : State) (left right : List ℕ) → defined at state left right ≡ and_then (body_in at state.variables (trim left) right) (behind_body at state (trim left))
unfolding defined
defined_by at state left right = refl

abbrev pub behind_macros : State → Definitions → Reads ParseFault State
behind_macros state macros = gives (record state { macros = macros })

pub kept_by : (at : Spot) (state : State) (name : List ℕ) (body : Macro) → with_body at state name body ≡ and_then (one_more at state.macros name body) (behind_macros state)
unfolding with_body
kept_by at state name body = refl
