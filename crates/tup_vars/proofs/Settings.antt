-- what lines set, one after another
use Rattle.std.proofs.Common.{◌≡◌, ◌⊎◌, inl, inr, ℕ, Bool, true, false, if◌then◌else◌, ◌&&◌, Result, IfOk, bytes_eq, min, arith, is_none, ◌+◌, ◌<◌, ◌≤◌, List, [], ◌∷◌, length, drop, get_or, Option, Some, None, Ok, Err, position, refl, sym, ap, ◌∙◌}
use Rattle.std.specs.List.{filter_map, cons_option, position_from}
use Rattle.std.proofs.lemmas.Iterator.Adapters.{position_from-zero}
use Rattle.std.proofs.lemmas.List.{at_drop_more, at_drop_all}
use Rattle.std.specs.Str.{is_utf8}
use Rattle.std.specs.Str.Lines.{lines as cut_lines}
use Rattle.tup_vars.specs.Table.{Entries, look, put}
use Rattle.tup_lex.specs.Blank.{trim}
use Rattle.tup_lex.specs.Line.{line_number, wrong_line, is_long, says_something}
use Rattle.tup_lex.specs.declared.kind.ParseKind.TheVariants.{NotUtf8, LineTooLong, ConfigLine}
use Rattle.tup_vars.specs.Config.{setting, set_all, with_line, short_settings, settings, is_wrong, last_of, config_of}
use Rattle.tup_vars.specs.declared.fault.ConfigFault.{ConfigFault}
use Rattle.tup_vars.specs.declared.fault.ConfigFault.TheVariants.{At, Memory}
use Rattle.tup_vars.proofs.Tables.{look-put}

-- what lines set in a table, where so many stand before them
abbrev pub read_from : Entries → ℕ → List (List ℕ) → Result Entries ConfigFault
read_from table n [] = Ok table
read_from table n (line ∷ more) = elim (with_line table (line_number n) line) [ Ok next ↦ read_from next (n + 1) more | Err fault ↦ Err fault ]

-- what entries make of a table, but for a line at some place that may not stand there
abbrev ends : Entries → List (List ℕ × List ℕ) → Option ℕ → Result Entries ConfigFault
ends table all (Some place) = Err (At (line_number place) ConfigLine)
ends table all None = Ok (set_all table all)

read_from-ends : (table : Entries) (n : ℕ) (lines : List (List ℕ)) → read_from table n lines ≡ ends table (filter_map setting lines) (position_from is_wrong n lines)
read_from-ends table n [] = refl
read_from-ends table n (line ∷ more) = by_setting (setting line) (λ next. read_from-ends next (n + 1) more)
  where
    by_setting : (o : Option (List ℕ × List ℕ)) → ((next : Entries) → read_from next (n + 1) more ≡ ends next (filter_map setting more) (position_from is_wrong (n + 1) more))
        → (elim (elim o as (λ _. Result Entries ConfigFault) [ Some (name, value) ↦ Ok (put table name value) | None ↦ if says_something (trim line) then Err (At (line_number n) ConfigLine) else Ok table ]) as (λ _. Result Entries ConfigFault) [ Ok next ↦ read_from next (n + 1) more | Err fault ↦ Err fault ])
        ≡ ends table (cons_option o (filter_map setting more)) (if is_none o && says_something (trim line) then Some n else position_from is_wrong (n + 1) more)
    by_setting (Some (name, value)) rest = rest (put table name value)
    by_setting None rest = by_test (says_something (trim line))
      where
        by_test : (b : Bool) → (elim (if b then Err (At (line_number n) ConfigLine) else Ok table) as (λ _. Result Entries ConfigFault) [ Ok next ↦ read_from next (n + 1) more | Err fault ↦ Err fault ])
            ≡ ends table (filter_map setting more) (if b then Some n else position_from is_wrong (n + 1) more)
        by_test true = refl
        by_test false = rest table

-- what all lines set is what those from a place on set in a table
abbrev pub So : List (List ℕ) → Entries → ℕ → Type 0
So lines table n = short_settings lines ≡ read_from table n (drop n lines)

pub so-begins : (lines : List (List ℕ)) → So lines [] 0
so-begins lines = ap (ends [] (filter_map setting lines)) (position_from-zero is_wrong lines) ∙ sym (read_from-ends [] 0 lines)

module _ (lines : List (List ℕ)) (table : Entries) (n : ℕ) (line : List ℕ) (h : n < length lines) (is : line ≡ get_or lines n line) where
  so-line : So lines table n → short_settings lines ≡ read_from table n (line ∷ drop (n + 1) lines)
  so-line so = so ∙ at_drop_more (λ rest. read_from table n rest) lines n line h ∙ ap (λ one. read_from table n (one ∷ drop (n + 1) lines)) (sym is)

  -- what follows a line
  abbrev further : Result Entries ConfigFault → Result Entries ConfigFault
  further r = elim r as (λ _. Result Entries ConfigFault) [ Ok next ↦ read_from next (n + 1) (drop (n + 1) lines) | Err fault ↦ Err fault ]

  pub so-reads : So lines table n → (new : Entries) → with_line table (line_number n) line ≡ Ok new → So lines new (n + 1)
  so-reads so new e = so-line so ∙ ap further e

  pub so-stops : So lines table n → (fault : ConfigFault) → with_line table (line_number n) line ≡ Err fault → short_settings lines ≡ Err fault
  so-stops so fault e = so-line so ∙ ap further e

pub so-ends : (lines : List (List ℕ)) (table : Entries) (n : ℕ) → length lines ≤ n → So lines table n → short_settings lines ≡ Ok table
so-ends lines table n end so = so ∙ at_drop_all (λ rest. read_from table n rest) lines n end

pub next_number : (number n : ℕ) → number ≡ min n 4294967295 → min (number + 1) 4294967295 ≡ line_number n
next_number number n e = omega arith

-- the two ends of a reading
pub settings-long : (lines : List (List ℕ)) (place : ℕ) → Some place ≡ position is_long lines → settings lines ≡ Err (At (line_number place) LineTooLong)
settings-long lines place e = rw (← e, settings) refl

pub settings-short : (lines : List (List ℕ)) → None ≡ position is_long lines → settings lines ≡ short_settings lines
settings-short lines none = rw (← none, settings) refl

-- ---- the last line that sets a name counts
or_else : Option (List ℕ) → Option (List ℕ) → Option (List ℕ)
or_else (Some value) other = Some value
or_else None other = other

look-set_all : (table : Entries) (all : List (List ℕ × List ℕ)) (name : List ℕ) → look (set_all table all) name ≡ or_else (last_of all name) (look table name)
unfolding or_else
look-set_all table [] name = refl
look-set_all table ((key, value) ∷ more) name =
    look-set_all (put table key value) more name ∙ ap (or_else (last_of more name)) (look-put table key value name) ∙ by_later (last_of more name) (bytes_eq name key)
  where
    by_later : (later : Option (List ℕ)) (b : Bool) → or_else later (if b then Some value else look table name)
        ≡ or_else (elim later as (λ _. Option (List ℕ)) [ Some value ↦ Some value | None ↦ if b then Some value else None ]) (look table name)
    by_later (Some later) b = refl
    by_later None true = refl
    by_later None false = refl

or_else-none : (value : Option (List ℕ)) → or_else value None ≡ value
unfolding or_else
or_else-none (Some value) = refl
or_else-none None = refl

short_settings-ok : (lines : List (List ℕ)) (entries : Entries) → short_settings lines ≡ Ok entries → entries ≡ set_all [] (filter_map setting lines)
short_settings-ok lines entries e = by_place (position is_wrong lines) e
  where
    by_place : (o : Option ℕ) → ends [] (filter_map setting lines) o ≡ Ok entries → entries ≡ set_all [] (filter_map setting lines)
    by_place (Some place) e = absurd (cc)
    by_place None e = cc

settings-ok : (lines : List (List ℕ)) (entries : Entries) → settings lines ≡ Ok entries → entries ≡ set_all [] (filter_map setting lines)
settings-ok lines entries e = by_place (position is_long lines) e
  where
    by_place : (o : Option ℕ) → (elim o as (λ _. Result Entries ConfigFault) [ Some place ↦ Err (At (line_number place) LineTooLong) | None ↦ short_settings lines ]) ≡ Ok entries → entries ≡ set_all [] (filter_map setting lines)
    by_place (Some place) e = absurd (cc)
    by_place None e = short_settings-ok lines entries e

config_of-ok : (file : List ℕ) (entries : Entries) → config_of file ≡ Ok entries → entries ≡ set_all [] (filter_map setting (cut_lines file))
config_of-ok file entries e = by_test (is_utf8 file) e
  where
    by_test : (b : Bool) → (if b then settings (cut_lines file) else Err (At (wrong_line file) NotUtf8)) ≡ Ok entries → entries ≡ set_all [] (filter_map setting (cut_lines file))
    by_test true e = settings-ok (cut_lines file) entries e
    by_test false e = absurd (cc)

-- what was read has the value of the last line that sets it
pub read-last : (file : List ℕ) (result : Result Entries ConfigFault) → (result ≡ Err Memory) ⊎ (result ≡ config_of file) → IfOk result (λ config. (name : List ℕ) → look config name ≡ last_of (filter_map setting (cut_lines file)) name)
read-last file (Err fault) is = tt
read-last file (Ok entries) (inl memory) = absurd (cc)
read-last file (Ok entries) (inr is) = λ name.
    let all = filter_map setting (cut_lines file) in
    ap (λ t. look t name) (config_of-ok file entries (sym is)) ∙ look-set_all [] all name ∙ or_else-none (last_of all name)
