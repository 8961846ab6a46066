-- The files that a glob gives, from the manual; what is refused, and in which order, is own.
-- The names of an answer and the outputs so far are one ordered set, so nothing depends on the order of the answer.
use Rattle.std.specs.Prelude.{ℕ, ◌-◌, ◌==◌, ◌||◌, Bool, true, if◌then◌else◌, List, [], ◌++◌, take, drop, fold, Option, None, Some, option_map}
use Rattle.std.specs.List.{filter, filter_map, list_any}
use Rattle.std.specs.Str.{chars}
use Rattle.std.specs.BTreeSet.{insert_key}
use Rattle.tup_path.specs.Name.{Names}
use Rattle.tup_path.specs.Order.{by_bytes}
use Rattle.tup_lex.specs.Word.{last_name}
use Rattle.tup_lex.specs.declared.span.Span.{Span}
use Rattle.tup_lex.specs.declared.kind.ParseKind.TheVariants.{MissingInput, OpenBracket}
use Rattle.tup_rule.specs.declared.draft.Draft.{Draft}
use Rattle.tup_glob.specs.declared.fault.GlobFault.{GlobFault}
use Rattle.tup_glob.specs.declared.symbol.Symbol.{Symbol}
use Rattle.tup_glob.specs.Read.{symbols_of}
use Rattle.tup_glob.specs.Match.{matches}
use Rattle.tup_glob.specs.Part.{matched_part}
use Rattle.tup_query.specs.declared.fault.ParseFault.{ParseFault}
use Rattle.tup_rule_line.specs.declared.found.Input.{Input}
use Rattle.tup_rule_line.specs.declared.found.Found.{Found}
use Rattle.tup_query.specs.Reads.{Reads, gives, and_then}
use Rattle.tup_query.specs.Ask.{names_at}
use Rattle.tup_query.specs.Spot.{Spot}
use Rattle.tup_rule_line.specs.State.{made_by}
use Rattle.tup_query.specs.Text.{taken}
use Rattle.tup_rule_line.specs.Found.{input, inputs_alone}
use Rattle.tup_rule_line.specs.Folder.{file_in, led_to_folder, name_in}

-- the bytes that make a name a glob: `*`, `?` and `[`
abbrev pub is_operator : ℕ → Bool
is_operator byte = byte == 42 || byte == 63 || byte == 91

-- whether a word is a glob: its last name has an operator
abbrev pub is_glob : List ℕ → Bool
is_glob word = list_any is_operator (last_name word)

-- those of paths that stand in a folder, by their names
abbrev pub names_among : Names → List Names → List (List ℕ)
names_among dir paths = filter_map (name_in dir) paths

-- whether a name is wanted: those are that a glob matches, or all where there is none
abbrev pub is_wanted : Option (List Symbol) → List ℕ → Bool
is_wanted None name = true
is_wanted (Some symbols) name = matches symbols (chars name)

-- those of names that are wanted
abbrev pub wanted : Option (List Symbol) → List (List ℕ) → List (List ℕ)
wanted None names = names
wanted (Some symbols) names = filter (is_wanted (Some symbols)) names

-- names in byte order, each once
abbrev pub in_order : List (List ℕ) → List (List ℕ)
in_order names = fold (insert_key by_bytes) [] names

-- the names of the files in a folder: those that are told, and the outputs of rules
unfoldable pub names_of_files : List Draft → Names → Reads ParseFault (List (List ℕ))
names_of_files drafts dir = and_then (names_at dir) (λ names. gives (in_order (names ++ names_among dir (made_by drafts))))

-- the bytes at a span
abbrev pub bytes_at : List ℕ → Span → List ℕ
bytes_at text span = take (span.to - span.from) (drop span.from text)

-- a file as an input, with what the first operator of a glob matched in its name
abbrev pub matched_input : List Symbol → List ℕ → Names → Input
matched_input symbols name path = input path (option_map (bytes_at name) (matched_part symbols name))

-- a file of a folder as an input, if it matches
abbrev pub matching : Names → List Symbol → List ℕ → Option Input
matching dir symbols name =
    if matches symbols (chars name) then option_map (matched_input symbols name) (file_in dir name) else None

-- the glob of a pattern
unfoldable pub glob_of : Spot → List ℕ → Reads ParseFault (List Symbol)
glob_of at pattern = taken at (λ (fault : GlobFault). OpenBracket) (symbols_of pattern)

-- the files of a folder that match
unfoldable pub matched_in : List Draft → List Symbol → Names → Reads ParseFault Found
matched_in drafts symbols dir = and_then (names_of_files drafts dir) (λ names. gives (inputs_alone (filter_map (matching dir symbols) names)))

-- the files that a glob matches, in byte order
unfoldable pub globbed : Spot → List Draft → List ℕ → Reads ParseFault Found
globbed at drafts word =
    and_then (glob_of at (last_name word)) (λ symbols. and_then (led_to_folder at MissingInput word) (λ dir. matched_in drafts symbols dir))
