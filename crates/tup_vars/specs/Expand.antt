-- What a text stands for, from the manual: each name is replaced once, from left to right. What is refused is own.
-- Of what is refused the first from the left is named; too long is the place at which the text so far passes the
-- limit.
use Rattle.std.specs.Prelude.{◌≡◌, ◌⊎◌, ℕ, ◌+◌, ◌≤◌, Bool, true, false, not, ◌&&◌, if◌then◌else◌, List, [], ◌∷◌, ◌++◌, length, Option, unwrap_or, Result, Ok, Err, MatchResult}
use Rattle.std.specs.List.{list_all}
use Rattle.tup_vars.specs.Name.{is_name, is_cwd, is_free}
use Rattle.tup_lex.specs.Word.{begins_with}
use Rattle.tup_vars.specs.Table.{Entries, value_of}
use Rattle.tup_vars.specs.Vars.{is_too_long}
use Rattle.tup_vars.specs.Segments.{Segment, Plain, Variable, Setting, Open, segments, is_mark, ends_in_mark}
use Rattle.tup_vars.specs.declared.fault.VarFault.{VarFault}
use Rattle.tup_vars.specs.declared.fault.VarFault.TheVariants.{Unclosed, BadName, TooLong, Stopped, Memory}

-- what names stand for: the variables, the text of `TUP_CWD`, and what a lookup answers to each name
pub record Scope : Type 0 where
  pub variables : Entries
  pub cwd : List ℕ
  pub answers : List ℕ → Option (List ℕ)

-- such a scope by its parts
abbrev pub scope : Entries → List ℕ → (List ℕ → Option (List ℕ)) → Scope
scope variables cwd answers = record { variables = variables; cwd = cwd; answers = answers }

-- what a variable stands for; an unset one is empty
abbrev pub variable : Entries → List ℕ → List ℕ → Result (List ℕ) VarFault
variable variables cwd name = if is_cwd name then Ok cwd else if is_free name then Ok (value_of variables name) else Err BadName

-- what a lookup with these answers says to a name; any name may be asked, and an unset one is empty
abbrev pub answer : (List ℕ → Option (List ℕ)) → List ℕ → Result (List ℕ) VarFault
answer answers name = if is_name name then Ok (unwrap_or (answers name) []) else Err BadName

-- what a segment stands for
abbrev pub value : Scope → Segment → Result (List ℕ) VarFault
value scope (Plain bytes) = Ok bytes
value scope (Variable name) = variable scope.variables scope.cwd name
value scope (Setting name) = answer scope.answers name
value scope (Open _) = Err Unclosed

-- a text with more behind it, if it isn't too long then
abbrev pub grown : List ℕ → List ℕ → Result (List ℕ) VarFault
grown text more = if is_too_long (length text + length more) then Err TooLong else Ok (text ++ more)

-- a text with a value behind it, if there is one
abbrev pub with_value : List ℕ → Result (List ℕ) VarFault → Result (List ℕ) VarFault
with_value text (Ok more) = grown text more
with_value text (Err fault) = Err fault

-- a text with what a segment stands for behind it
abbrev pub with_segment : Scope → List ℕ → Segment → Result (List ℕ) VarFault
with_segment scope text segment = with_value text (value scope segment)

-- a text with what segments stand for behind it; the first segment that is refused stands
abbrev pub with_segments : Scope → List ℕ → List Segment → Result (List ℕ) VarFault
with_segments scope text [] = Ok text
with_segments scope text (segment ∷ more) = elim (with_segment scope text segment) [ Ok longer ↦ with_segments scope longer more | Err fault ↦ Err fault ]

-- what a text is expanded to
abbrev pub expansion : Scope → List ℕ → Result (List ℕ) VarFault
expansion scope text = with_segments scope [] (segments text)

-- whether a call ended because its lookup had stopped
abbrev pub is_stop : {T : Type 0} → Result T VarFault → Bool
is_stop (Ok _) = false
is_stop (Err Stopped) = true
is_stop (Err _) = false

-- a call ended without an answer: there was no memory, or its lookup had stopped
abbrev pub HasNoAnswer : {T : Type 0} → Result T VarFault → Type 0
HasNoAnswer result = (result ≡ Err Memory) ⊎ (result ≡ Err Stopped)

-- a call that puts something behind a text did what was wanted: it left the longer text, or gave the refusal
abbrev pub EndsAs : Result (Unit {0}) VarFault → List ℕ → Result (List ℕ) VarFault → Type 0
EndsAs result text wanted = MatchResult result (λ _. wanted ≡ Ok text) (λ fault. wanted ≡ Err fault)

-- a text without marks
abbrev pub is_plain : List ℕ → Bool
is_plain text = list_all (λ byte. not (is_mark byte)) text

-- no mark at the end of a text has its bracket at the front of the next one
abbrev pub are_apart : List ℕ → List ℕ → Bool
are_apart front back = not (ends_in_mark front && begins_with 40 back)

-- two texts stand for so much together as each for itself
abbrev pub Joins : Scope → List ℕ → List ℕ → Type 0
Joins names front back = (first second : List ℕ) → expansion names front ≡ Ok first → expansion names back ≡ Ok second →
    length first + length second ≤ 1048576 → expansion names (front ++ back) ≡ Ok (first ++ second)
