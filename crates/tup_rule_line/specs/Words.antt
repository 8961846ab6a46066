-- The parts of a rule line as texts, from the manual.
use Rattle.std.specs.Prelude.{ℕ, List, [], ◌∷◌, ◌++◌, map, codes, Option, Some, None, option_map}
use Rattle.tup_vars.specs.Config.{behind}
use Rattle.tup_lex.specs.Parts.{rule_parts}
use Rattle.tup_lex.specs.declared.parts.Parts.{Parts}
use Rattle.tup_lex.specs.declared.fault.LexFault.{LexFault}
use Rattle.tup_lex.specs.declared.fault.LexFault.TheVariants as fault
use Rattle.tup_lex.specs.declared.kind.ParseKind.{ParseKind}
use Rattle.tup_lex.specs.declared.kind.ParseKind.TheVariants as kind
use Rattle.tup_macro.specs.Macros.{Definitions, macro_of}
use Rattle.tup_macro.specs.declared.macros.Macro.{Macro}
use Rattle.tup_query.specs.declared.fault.ParseFault.{ParseFault}
use Rattle.tup_rule_line.specs.declared.words.Words.{Words}
use Rattle.tup_query.specs.Reads.{Reads, gives, and_then}
use Rattle.tup_query.specs.Spot.{Spot, refused}
use Rattle.tup_query.specs.Text.{taken}
use Rattle.tup_rule_line.specs.Glob.{bytes_at}

-- the parts of a text by their places in it
abbrev pub words_at : List ℕ → Parts → Words
words_at text parts =
    record {
      foreach = parts.foreach;
      inputs = map (bytes_at text) parts.inputs;
      order = map (bytes_at text) parts.order;
      command = bytes_at text parts.command;
      outputs = map (bytes_at text) parts.outputs;
      extra = map (bytes_at text) parts.extra;
      group = option_map (bytes_at text) parts.group;
      bin = option_map (bytes_at text) parts.bin;
    }

-- what a refusal of a file's lines, or of a line's parts, is called
abbrev pub lex_kind : LexFault → ParseKind
lex_kind fault.NoArrow = kind.NoArrow
lex_kind fault.BadBrace = kind.BadBrace
lex_kind (fault.NotUtf8 line) = kind.NotUtf8
lex_kind (fault.LineTooLong line) = kind.LineTooLong
lex_kind _ = kind.UnknownLine

-- the parts of a rule as texts
unfoldable pub cut : Spot → List ℕ → Reads ParseFault Words
cut at text = and_then (taken at lex_kind (rule_parts text)) (λ parts. gives (words_at text parts))

-- words, or others where there are none
abbrev pub or_else : List (List ℕ) → List (List ℕ) → List (List ℕ)
or_else [] others = others
or_else (word ∷ words) others = word ∷ words

-- a rule with a macro's command, and its order-only inputs behind those of the rule
abbrev pub with_taken : Words → Macro → Words
with_taken words body = record words { order = words.order ++ body.order; command = body.command }

-- a rule with a macro's outputs, or its extra outputs, where it names none
abbrev pub with_given : Words → Macro → Words
with_given words body = record words { outputs = or_else words.outputs body.outputs; extra = or_else words.extra body.extra }

-- a rule with what a macro says
abbrev pub filled : Words → Macro → Words
filled words body = with_given (with_taken words body) body

-- the name of the macro that a command is
abbrev pub macro_name : List ℕ → Option (List ℕ)
macro_name command = behind (codes "!") command

-- a rule with the macro of a name
unfoldable pub with_named : Spot → Definitions → List ℕ → Words → Reads ParseFault Words
with_named at macros name words =
    elim (macro_of macros name) [ Some body ↦ gives (filled words body) | None ↦ refused at kind.NoSuchMacro ]

-- a rule whose command may be a macro's name
unfoldable pub with_macro : Spot → Definitions → Words → Reads ParseFault Words
with_macro at macros words =
    elim (macro_name words.command) [ Some name ↦ with_named at macros name words | None ↦ gives words ]

-- the parts of a rule, with what its macro says
unfoldable pub words_of : Spot → Definitions → List ℕ → Reads ParseFault Words
words_of at macros text = and_then (cut at text) (λ bare. with_macro at macros bare)
