-- The parts of a rule line, case by case.
use Rattle.std.proofs.Common.{◌≡◌, ◌⊎◌, inl, inr, ℕ, List, Option, Some, None, Result, Ok, Err, sym, ap, ◌∙◌}
use Rattle.tup_path.specs.Gives.{GivesUnless}
use Rattle.tup_lex.specs.Parts.{rule_parts}
use Rattle.tup_lex.specs.declared.parts.Parts.{Parts}
use Rattle.tup_lex.specs.declared.fault.LexFault.{LexFault}
use Rattle.tup_lex.specs.declared.fault.LexFault.TheVariants as kept
use Rattle.tup_lex.specs.declared.kind.ParseKind.TheVariants as kind
use Rattle.tup_macro.specs.Macros.{Definitions, macro_of}
use Rattle.tup_macro.specs.declared.macros.Macro.{Macro}
use Rattle.tup_query.specs.declared.fault.ParseFault.{ParseFault}
use Rattle.tup_query.specs.declared.fault.ReadEnd.{ReadEnd}
use Rattle.tup_query.specs.declared.fault.ReadEnd.TheVariants.{Memory}
use Rattle.tup_rule_line.specs.declared.words.Words.{Words}
use Rattle.tup_query.specs.Reads.{Reads, gives, and_then}
use Rattle.tup_query.specs.Spot.{Spot, refused}
use Rattle.tup_query.specs.Text.{taken}
use Rattle.tup_rule_line.specs.Words.{words_at, lex_kind, cut, filled, macro_name, with_named, with_macro}
use Rattle.tup_query.specs.Went.{Gives, IsRefusal}
use Rattle.tup_query.proofs.Went.{refusal_of}

-- ---- the parts of a rule
-- what comes of places
abbrev by_parts : Spot → List ℕ → Result Parts LexFault → Reads ParseFault Words
by_parts at text parts = and_then (taken at lex_kind parts) (λ parts. gives (words_at text parts))

pub cut-ok : (at : Spot) (text : List ℕ) (parts : Parts) (words : Words) → (Ok parts ≡ Err kept.Memory) ⊎ (Ok parts ≡ rule_parts text) → words ≡ words_at text parts → Gives (cut at text) (Ok words)
unfolding cut taken and_then
cut-ok at text parts words (inl e) is = absurd (cc)
cut-ok at text parts words (inr e) is = ap (by_parts at text) (sym e) ∙ ap (λ (w : Words). gives w) (sym is)

pub cut-err : (at : Spot) (text : List ℕ) (fault : LexFault) (end : ReadEnd) → GivesUnless (Err fault) kept.Memory (rule_parts text)
    → IsRefusal at (lex_kind fault) end → (fault ≡ kept.Memory → end ≡ Memory) → Gives (cut at text) (Err end)
unfolding cut taken and_then
cut-err at text fault end (inl e) is memory = refusal_of (cut at text) at (lex_kind fault) end is (inl (memory (cc)))
cut-err at text fault end (inr e) is memory = refusal_of (cut at text) at (lex_kind fault) end is (inr (ap (by_parts at text) (sym e)))

pub macro-some : (at : Spot) (macros : Definitions) (words : Words) (name : List ℕ) → macro_name words.command ≡ Some name → with_macro at macros words ≡ with_named at macros name words
unfolding with_macro
macro-some at macros words name e =
    ap (λ (found : Option (List ℕ)). elim found as (λ _. Reads ParseFault Words) [ Some name ↦ with_named at macros name words | None ↦ gives words ]) e

pub macro-none : (at : Spot) (macros : Definitions) (words : Words) → macro_name words.command ≡ None → with_macro at macros words ≡ gives words
unfolding with_macro
macro-none at macros words e =
    ap (λ (found : Option (List ℕ)). elim found as (λ _. Reads ParseFault Words) [ Some name ↦ with_named at macros name words | None ↦ gives words ]) e

pub named-some : (at : Spot) (macros : Definitions) (name : List ℕ) (words : Words) (body : Macro) → macro_of macros name ≡ Some body → with_named at macros name words ≡ gives (filled words body)
unfolding with_named
named-some at macros name words body e =
    ap (λ (found : Option Macro). elim found as (λ _. Reads ParseFault Words) [ Some body ↦ gives (filled words body) | None ↦ refused at kind.NoSuchMacro ]) e

pub named-none : (at : Spot) (macros : Definitions) (name : List ℕ) (words : Words) → macro_of macros name ≡ None → with_named at macros name words ≡ refused at kind.NoSuchMacro
unfolding with_named
named-none at macros name words e =
    ap (λ (found : Option Macro). elim found as (λ _. Reads ParseFault Words) [ Some body ↦ gives (filled words body) | None ↦ refused at kind.NoSuchMacro ]) e
