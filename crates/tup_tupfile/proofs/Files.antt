-- The files that a reading opens, case by case.
use Rattle.std.proofs.Common.{◌≡◌, ◌⊎◌, inl, inr, ℕ, List, [], ◌∷◌, Option, Some, None, Result, Ok, Err, option_map, refl, sym, ap}
use Rattle.tup_path.specs.Name.{Names, Content}
use Rattle.tup_path.specs.Gives.{GivesUnless}
use Rattle.tup_lex.specs.Line.{lines}
use Rattle.tup_lex.specs.declared.line.Line.{Line}
use Rattle.tup_lex.specs.declared.fault.LexFault.{LexFault}
use Rattle.tup_lex.specs.declared.fault.LexFault.TheVariants as kept
use Rattle.tup_lex.specs.declared.kind.ParseKind.TheVariants.{IncludeMissing, MissingEndif}
use Rattle.tup_vars.specs.declared.branches.Level.{Level}
use Rattle.tup_vars.specs.declared.fault.VarFault.TheVariants as var
use Rattle.tup_vars.specs.Branches.{ended as levels_end}
use Rattle.tup_vars.specs.Table.{Entries}
use Rattle.tup_query.specs.declared.fault.ParseFault.{ParseFault}
use Rattle.tup_query.specs.declared.fault.ReadEnd.{ReadEnd}
use Rattle.tup_query.specs.declared.fault.ReadEnd.TheVariants.{Memory}
use Rattle.tup_tupfile.specs.declared.file.Held.{Held}
use Rattle.tup_tupfile.specs.declared.opening.Along.{Along}
use Rattle.tup_rule_line.specs.declared.state.State.{State}
use Rattle.tup_query.specs.Reads.{Reads, gives, and_then}
use Rattle.tup_query.specs.Ask.{content_at}
use Rattle.tup_query.specs.Spot.{Spot, spot, refused}
use Rattle.tup_query.specs.Text.{expanded}
use Rattle.tup_rule_line.specs.Words.{lex_kind}
use Rattle.tup_rule_line.specs.Folder.{file_in}
use Rattle.tup_tupfile.specs.File.{held, held_at, held_in, named_file, included_path, included_file, fault_line, lines_of, ended}
use Rattle.tup_query.specs.Went.{Gives, IsRefusal}
use Rattle.tup_query.proofs.Went.{refusal_of}

pub held-some : (dir : Names) (name : List ℕ) (path : Names) → file_in dir name ≡ Some path → held_in {F = ParseFault} dir name ≡ held_at path
unfolding held_in
held-some dir name path e = ap (λ (found : Option Names). elim found as (λ _. Reads ParseFault (Option Held)) [ Some path ↦ held_at path | None ↦ gives None ]) e

pub held-none : (dir : Names) (name : List ℕ) → file_in dir name ≡ None → held_in {F = ParseFault} dir name ≡ gives None
unfolding held_in
held-none dir name e = ap (λ (found : Option Names). elim found as (λ _. Reads ParseFault (Option Held)) [ Some path ↦ held_at path | None ↦ gives None ]) e

-- what comes of a path's content
abbrev pub behind_content : Names → Option Content → Reads ParseFault (Option Held)
behind_content path content = gives (option_map (held path) content)

pub held_by : (path : Names) → held_at path ≡ and_then (content_at path) (behind_content path)
unfolding held_at
held_by path = refl

-- what comes of a file that is looked for
abbrev pub wanted : Spot → Option Held → Reads ParseFault Held
wanted at found = elim found as (λ _. Reads ParseFault Held) [ Some file ↦ gives file | None ↦ refused at IncludeMissing ]

pub named_by : (at : Spot) (path : Names) → named_file at path ≡ and_then (held_at path) (wanted at)
unfolding named_file
named_by at path = refl

-- what comes of the path of an included file, and of its name
abbrev pub behind_path : Spot → Names → Reads ParseFault Held
behind_path at path = named_file at path

abbrev pub behind_name : Spot → List ℕ → Reads ParseFault Held
behind_name at name = and_then (included_path at name) (behind_path at)

pub included_by : (at : Spot) (variables : Entries) (text : List ℕ) → included_file at variables text ≡ and_then (expanded at variables text) (behind_name at)
unfolding included_file
included_by at variables text = refl

-- lines, and their refusal
abbrev pub by_lines : Names → Names → Result (List Line) LexFault → Reads ParseFault (List Line)
by_lines dir file all = elim all as (λ _. Reads ParseFault (List Line)) [
  | Ok all ↦ gives all
  | Err fault ↦ refused (spot dir file (fault_line fault)) (lex_kind fault)
]

pub lines-ok : (dir file : Names) (content : Content) (all : List Line) → (Ok all ≡ Err kept.Memory) ⊎ (Ok all ≡ lines content) → Gives (lines_of dir file content) (Ok all)
unfolding lines_of
lines-ok dir file content all (inl e) = absurd (cc)
lines-ok dir file content all (inr e) = ap (by_lines dir file) (sym e)

pub lines-err : (dir file : Names) (content : Content) (fault : LexFault) (end : ReadEnd) → GivesUnless (Err fault) kept.Memory (lines content)
    → IsRefusal (spot dir file (fault_line fault)) (lex_kind fault) end → (fault ≡ kept.Memory → end ≡ Memory) → Gives (lines_of dir file content) (Err end)
unfolding lines_of
lines-err dir file content fault end (inl e) is memory = refusal_of (lines_of dir file content) (spot dir file (fault_line fault)) (lex_kind fault) end is (inl (memory (cc)))
lines-err dir file content fault end (inr e) is memory = refusal_of (lines_of dir file content) (spot dir file (fault_line fault)) (lex_kind fault) end is (inr (ap (by_lines dir file) (sym e)))

-- ---- the end of a file
abbrev pub by_levels : Names → Names → State → List Level → Reads ParseFault State
by_levels dir file state levels = elim levels as (λ _. Reads ParseFault State) [
  | [] ↦ gives state
  | outermost ∷ more ↦ refused (spot dir file outermost.line) MissingEndif
]

pub ended-closed : (dir file : Names) (before : Along) → levels_end before.levels ≡ Ok tt → ended dir file before ≡ gives before.state
unfolding ended
ended-closed dir file before e = by before.levels e
  where
    by : (levels : List Level) → levels_end levels ≡ Ok tt → by_levels dir file before.state levels ≡ gives before.state
    by [] e = refl
    by (outermost ∷ more) e = absurd (cc)

pub ended-open : (dir file : Names) (before : Along) (line : ℕ) → levels_end before.levels ≡ Err (var.MissingEndif line) → ended dir file before ≡ refused (spot dir file line) MissingEndif
unfolding ended
ended-open dir file before line e = by before.levels e
  where
    by : (levels : List Level) → levels_end levels ≡ Err (var.MissingEndif line) → by_levels dir file before.state levels ≡ refused (spot dir file line) MissingEndif
    by [] e = absurd (cc)
    by (outermost ∷ more) e =
        let same : outermost.line ≡ line = cc in
        ap (λ (n : ℕ). refused {A = State} (spot dir file n) MissingEndif) same
