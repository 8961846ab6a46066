-- The input words of a rule, from the manual; what is refused, and what a word that is expanded to nothing is, is own.
use Rattle.std.specs.Prelude.{ℕ, ◌||◌, Bool, true, false, if◌then◌else◌, List, [], ◌∷◌, map, Some, None, bytes_eq}
use Rattle.tup_path.specs.Name.{Names}
use Rattle.tup_lex.specs.declared.kind.ParseKind.TheVariants.{MissingInput, NoSuchBin}
use Rattle.tup_rule.specs.declared.draft.Draft.{Draft}
use Rattle.tup_rule.specs.declared.question.Kind.{Kind}
use Rattle.tup_rule.specs.declared.question.Kind.TheVariants.{Nothing, File, Dir}
use Rattle.tup_macro.specs.Gifts.{GiftsTo, members_of}
use Rattle.tup_query.specs.declared.fault.ParseFault.{ParseFault}
use Rattle.tup_rule_line.specs.declared.found.Found.{Found}
use Rattle.tup_rule_line.specs.declared.state.State.{State}
use Rattle.tup_query.specs.Reads.{Reads, gives, and_then}
use Rattle.tup_query.specs.Ask.{kind_at}
use Rattle.tup_query.specs.Spot.{Spot, refused}
use Rattle.tup_rule_line.specs.State.{is_made}
use Rattle.tup_rule_line.specs.Flagged.{bare_parts, flagged_text}
use Rattle.tup_rule_line.specs.Folder.{bin_name, is_group, led, led_to_folder, group_in}
use Rattle.tup_rule_line.specs.Found.{input, inputs_alone, one_input, one_group, with_found}
use Rattle.tup_rule_line.specs.Glob.{is_glob, globbed}

-- whether a file stands at a path
abbrev pub is_file : Kind → Bool
is_file File = true
is_file Nothing = false
is_file Dir = false

-- a path as an input, by what stands there: a file, or an output of a rule
abbrev pub known_input : Spot → List Draft → Names → Kind → Reads ParseFault Found
known_input at drafts path kind = if is_file kind || is_made drafts path then gives (one_input path) else refused at MissingInput

-- the file that a word names
unfoldable pub literal : Spot → List Draft → List ℕ → Reads ParseFault Found
literal at drafts word =
    and_then (led at MissingInput at.dir word) (λ path. and_then (kind_at path) (λ kind. known_input at drafts path kind))

-- the files that a bin holds
unfoldable pub from_bin : Spot → GiftsTo (List ℕ) → List ℕ → Reads ParseFault Found
from_bin at bins name = elim (members_of bytes_eq bins name) [
  | Some paths ↦ gives (inputs_alone (map (λ (path : Names). input path None) paths))
  | None ↦ refused at NoSuchBin
]

-- a group that a word names
unfoldable pub from_group : Spot → List ℕ → Reads ParseFault Found
from_group at word = and_then (led_to_folder at MissingInput word) (λ dir. gives (one_group (group_in dir word)))

-- a word with its flags put in
abbrev pub bare_text : Spot → List ℕ → Reads ParseFault (List ℕ)
bare_text at word = flagged_text at (bare_parts at.dir) word

-- what a text gives then: the files that a glob matches, or one file
abbrev pub from_text : Spot → List Draft → List ℕ → Reads ParseFault Found
from_text at drafts text = if is_glob text then globbed at drafts text else literal at drafts text

-- a word that is no bin and no group, once its flags are put in
unfoldable pub from_files : Spot → List Draft → List ℕ → Reads ParseFault Found
from_files at drafts word = and_then (bare_text at word) (λ text. from_text at drafts text)

-- what an input word gives that is no bin
unfoldable pub from_other : Spot → List Draft → List ℕ → Reads ParseFault Found
from_other at drafts word = if is_group word then from_group at word else from_files at drafts word

-- what an input word gives
unfoldable pub from_word : Spot → State → List ℕ → Reads ParseFault Found
from_word at state word = elim (bin_name word) [ Some name ↦ from_bin at state.bins name | None ↦ from_other at state.drafts word ]

-- what input words give, behind what was found before
unfoldable pub from_words : Spot → State → Found → List (List ℕ) → Reads ParseFault Found
from_words at state found [] = gives found
from_words at state found (word ∷ more) =
    and_then (from_word at state word) (λ next. from_words at state (with_found found next) more)
