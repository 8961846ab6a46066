-- The input words of a rule, case by case.
use Rattle.std.proofs.Common.{◌≡◌, ℕ, ◌+◌, ◌<◌, ◌≤◌, ◌||◌, true, false, if◌then◌else◌, List, length, get_or, drop, map, Option, Some, None, bytes_eq, refl, sym, ap, ◌∙◌}
use Rattle.std.proofs.lemmas.List.{at_drop_more, at_drop_all}
use Rattle.tup_path.specs.Name.{Names}
use Rattle.tup_lex.specs.declared.kind.ParseKind.TheVariants.{MissingInput, NoSuchBin}
use Rattle.tup_rule.specs.declared.draft.Draft.{Draft}
use Rattle.tup_rule.specs.declared.question.Kind.{Kind}
use Rattle.tup_macro.specs.Gifts.{GiftsTo, members_of}
use Rattle.tup_query.specs.declared.fault.ParseFault.{ParseFault}
use Rattle.tup_rule_line.specs.declared.found.Found.{Found}
use Rattle.tup_rule_line.specs.declared.state.State.{State}
use Rattle.tup_query.specs.Reads.{Reads, gives, and_then}
use Rattle.tup_query.specs.Spot.{Spot, refused}
use Rattle.tup_rule_line.specs.State.{is_made}
use Rattle.tup_rule_line.specs.Folder.{bin_name, is_group}
use Rattle.tup_rule_line.specs.Found.{input, inputs_alone, one_input, with_found}
use Rattle.tup_rule_line.specs.Glob.{is_glob, globbed}
use Rattle.tup_rule_line.specs.Input.{is_file, known_input, literal, from_bin, from_group, bare_text, from_text, from_files, from_other, from_word, from_words}

pub inputs_more : (at : Spot) (state : State) (found : Found) (words : List (List ℕ)) (index : ℕ) (word : List ℕ) → index < length words → word ≡ get_or words index word
    → from_words at state found (drop index words) ≡ and_then (from_word at state word) (λ next. from_words at state (with_found found next) (drop (index + 1) words))
unfolding from_words
inputs_more at state found words index word within is =
    at_drop_more (from_words at state found) words index word within
    ∙ ap (λ (w : List ℕ). and_then (from_word at state w) (λ next. from_words at state (with_found found next) (drop (index + 1) words))) (sym is)

pub inputs_end : (at : Spot) (state : State) (found : Found) (words : List (List ℕ)) (index : ℕ) → length words ≤ index → from_words at state found (drop index words) ≡ gives found
unfolding from_words
inputs_end at state found words index past = at_drop_all (from_words at state found) words index past

pub word-bin : (at : Spot) (state : State) (word name : List ℕ) → bin_name word ≡ Some name → from_word at state word ≡ from_bin at state.bins name
unfolding from_word
word-bin at state word name e =
    ap (λ (found : Option (List ℕ)). elim found as (λ _. Reads ParseFault Found) [ Some name ↦ from_bin at state.bins name | None ↦ from_other at state.drafts word ]) e

pub word-other : (at : Spot) (state : State) (word : List ℕ) → bin_name word ≡ None → from_word at state word ≡ from_other at state.drafts word
unfolding from_word
word-other at state word e =
    ap (λ (found : Option (List ℕ)). elim found as (λ _. Reads ParseFault Found) [ Some name ↦ from_bin at state.bins name | None ↦ from_other at state.drafts word ]) e

pub other-group : (at : Spot) (drafts : List Draft) (word : List ℕ) → is_group word ≡ true → from_other at drafts word ≡ from_group at word
unfolding from_other
other-group at drafts word e = ap (λ b. if b then from_group at word else from_files at drafts word) e

pub other-files : (at : Spot) (drafts : List Draft) (word : List ℕ) → is_group word ≡ false → from_other at drafts word ≡ from_files at drafts word
unfolding from_other
other-files at drafts word e = ap (λ b. if b then from_group at word else from_files at drafts word) e

pub bin-some : (at : Spot) (bins : GiftsTo (List ℕ)) (name : List ℕ) (paths : List Names) → members_of bytes_eq bins name ≡ Some paths → from_bin at bins name ≡ gives (inputs_alone (map (λ (path : Names). input path None) paths))
unfolding from_bin
bin-some at bins name paths e =
    ap (λ (found : Option (List Names)). elim found as (λ _. Reads ParseFault Found) [
      | Some paths ↦ gives (inputs_alone (map (λ (path : Names). input path None) paths))
      | None ↦ refused at NoSuchBin
    ]) e

pub bin-none : (at : Spot) (bins : GiftsTo (List ℕ)) (name : List ℕ) → members_of bytes_eq bins name ≡ None → from_bin at bins name ≡ refused at NoSuchBin
unfolding from_bin
bin-none at bins name e =
    ap (λ (found : Option (List Names)). elim found as (λ _. Reads ParseFault Found) [
      | Some paths ↦ gives (inputs_alone (map (λ (path : Names). input path None) paths))
      | None ↦ refused at NoSuchBin
    ]) e

pub known-there : (at : Spot) (drafts : List Draft) (path : Names) (kind : Kind) → (is_file kind || is_made drafts path) ≡ true → known_input at drafts path kind ≡ gives (one_input path)
known-there at drafts path kind e = ap (λ b. if b then gives (one_input path) else refused at MissingInput) e

pub known-missing : (at : Spot) (drafts : List Draft) (path : Names) (kind : Kind) → (is_file kind || is_made drafts path) ≡ false → known_input at drafts path kind ≡ refused at MissingInput
known-missing at drafts path kind e = ap (λ b. if b then gives (one_input path) else refused at MissingInput) e

pub text-glob : (at : Spot) (drafts : List Draft) (text : List ℕ) → is_glob text ≡ true → from_text at drafts text ≡ globbed at drafts text
text-glob at drafts text e = ap (λ b. if b then globbed at drafts text else literal at drafts text) e

pub text-literal : (at : Spot) (drafts : List Draft) (text : List ℕ) → is_glob text ≡ false → from_text at drafts text ≡ literal at drafts text
text-literal at drafts text e = ap (λ b. if b then globbed at drafts text else literal at drafts text) e

pub files_by : (at : Spot) (drafts : List Draft) (word : List ℕ) → from_files at drafts word ≡ and_then (bare_text at word) (from_text at drafts)
unfolding from_files
files_by at drafts word = refl
