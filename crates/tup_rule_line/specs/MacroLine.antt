-- A macro line, from the manual; what is refused, and in which order, is own.
use Rattle.std.specs.Prelude.{ℕ, ◌&&◌, ◌||◌, Bool, not, if◌then◌else◌, List, [], ◌∷◌, ◌++◌, length, ◌==◌, is_some, is_none}
use Rattle.std.specs.List.{list_any}
use Rattle.tup_lex.specs.Blank.{trim}
use Rattle.tup_lex.specs.declared.kind.ParseKind.TheVariants.{BadName, BadBrace, DefinedTwice}
use Rattle.tup_vars.specs.Name.{is_name}
use Rattle.tup_vars.specs.Table.{Entries}
use Rattle.tup_macro.specs.Macros.{Definitions, macro_of}
use Rattle.tup_macro.specs.declared.macros.Macro.{Macro}
use Rattle.tup_query.specs.declared.fault.ParseFault.{ParseFault}
use Rattle.tup_rule_line.specs.declared.state.State.{State}
use Rattle.tup_rule_line.specs.declared.words.Words.{Words}
use Rattle.tup_query.specs.Reads.{Reads, gives, and_then}
use Rattle.tup_query.specs.Spot.{Spot, refused}
use Rattle.tup_query.specs.Text.{expanded}
use Rattle.tup_rule_line.specs.Folder.{bin_name, is_group}
use Rattle.tup_rule_line.specs.Words.{cut}

-- whether a word is a bin or a group
abbrev pub is_gift : List ℕ → Bool
is_gift word = is_some (bin_name word) || is_group word

-- whether words are those of a macro: order-only inputs that are files, and outputs that go nowhere else
abbrev pub is_body : Words → Bool
is_body words =
    not words.foreach && length words.inputs == 0 && not (list_any is_gift words.order)
    && is_none words.group && is_none words.bin

-- what a macro says
abbrev pub body_of : Words → Macro
body_of words = record { order = words.order; command = words.command; outputs = words.outputs; extra = words.extra }

-- the macro that words are, unless they have what no macro has
unfoldable pub only_body : Spot → Words → Reads ParseFault Macro
only_body at words = if is_body words then gives (body_of words) else refused at BadBrace

-- the macro of a name, by its text
unfoldable pub named_body : Spot → List ℕ → List ℕ → Reads ParseFault Macro
named_body at name text = if is_name name then and_then (cut at text) (λ words. only_body at words) else refused at BadName

-- the same, by what stands behind its `=`
unfoldable pub body_in : Spot → Entries → List ℕ → List ℕ → Reads ParseFault Macro
body_in at variables name right = and_then (expanded at variables right) (λ text. named_body at name text)

-- macros with one more, unless its name has one
unfoldable pub one_more : Spot → Definitions → List ℕ → Macro → Reads ParseFault Definitions
one_more at macros name body = if is_some (macro_of macros name) then refused at DefinedTwice else gives (macros ++ (name, body) ∷ [])

-- the state with one more macro
unfoldable pub with_body : Spot → State → List ℕ → Macro → Reads ParseFault State
with_body at state name body = and_then (one_more at state.macros name body) (λ macros. gives (record state { macros = macros }))

-- a macro line: what stands before its first `=`, and behind it
unfoldable pub defined : Spot → State → List ℕ → List ℕ → Reads ParseFault State
defined at state left right = and_then (body_in at state.variables (trim left) right) (λ body. with_body at state (trim left) body)
