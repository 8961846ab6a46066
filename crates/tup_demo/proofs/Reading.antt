-- The reading of the project: its Tupfile is read, and comes to one rule.
use Rattle.std.proofs.Common.{◌≡◌, ℕ, zero, suc, ◌||◌, Bool, true, false, cond, List, [], ◌∷◌, ◌++◌, codes, map, is_some, unwrap_or, if◌then◌else◌, Option, None, Some, option_and_then, IsTrue, IsSome, Result, Ok, Err, slice_get, refl, sym, ap, subst, ◌∙◌}
use Rattle.std.specs.FinMap as finite
use Rattle.std.specs.Ordering.{eq_by_cmp}
use Rattle.std.specs.Result.{result_ok}
use Rattle.tup_path.specs.Name.{Names, Content}
use Rattle.tup_path.specs.Order.{by_names, same_path, by_names-antisymmetric, by_names-total}
use Rattle.tup_path.specs.Resolve.{above}
use Rattle.tup_path.proofs.Same.{same_path-decides}
use Rattle.tup_rule.specs.declared.draft.Draft.{Draft}
use Rattle.tup_rule.specs.declared.draft.Piece.TheVariants.{Text}
use Rattle.tup_rule.specs.declared.question.Kind.{Kind}
use Rattle.tup_rule.specs.declared.question.Kind.TheVariants.{Nothing, File, Dir}
use Rattle.tup_rule.specs.declared.question.Question.{Question}
use Rattle.tup_rule.specs.declared.question.Question.TheVariants as query
use Rattle.tup_rule.specs.declared.question.Reading.{Reading}
use Rattle.tup_rule.specs.declared.question.Told.{Told}
use Rattle.tup_rule.specs.declared.question.Told.TheVariants as told
use Rattle.tup_rule.specs.declared.rule.Rule.{Rule}
use Rattle.tup_rule.specs.Producer.{MakesFor, ProducerOver}
use Rattle.tup_rule.specs.Rule.{declares, maker}
use Rattle.std.specs.Str.{is_utf8}
use Rattle.std.specs.Str.Lines.{lines as cut_lines}
use Rattle.std.proofs.lemmas.Str.{is_utf8-from_IsUtf8}
use Rattle.memchr.specs.Find.{matches_from}
use Rattle.tup_lex.specs.Line.{joined_lines, lines, said, wrong_line}
use Rattle.tup_lex.specs.declared.fault.LexFault.{LexFault}
use Rattle.tup_lex.specs.declared.fault.LexFault.TheVariants.{NotUtf8}
use Rattle.tup_lex.specs.declared.line.Line.{Line}
use Rattle.tup_lex.specs.declared.kind.ParseKind.TheVariants.{NotUtf8 as ConfigNotUtf8}
use Rattle.tup_vars.specs.declared.fault.ConfigFault.TheVariants.{At}
use Rattle.tup_vars.specs.Config.{config_of, settings}
use Rattle.tup_query.specs.declared.fault.ParseFault.{ParseFault}
use Rattle.tup_query.specs.Reads.{Reads, gives}
use Rattle.tup_query.specs.Spot.{refused, spot}
use Rattle.tup_rule_line.specs.State.{fresh, is_made}
use Rattle.tup_rule_line.specs.Words.{lex_kind}
use Rattle.tup_tupfile.specs.File.{fault_line}
use Rattle.tup_tupfile.specs.Opening.{along}
use Rattle.tup_vars.specs.declared.fault.ConfigFault.{ConfigFault}
use Rattle.tup_vars.specs.Table.{Entries}
use Rattle.tup_query.specs.Key.{same_question-true}
use Rattle.tup_query.specs.Log.{Log, Ran, noted_log, same_question, told_before}
use Rattle.tup_readings.specs.Answers.{Readings, answer, awaited, made_kind, other_drafts, unread}
use Rattle.tup_readings.specs.Readings.{IsAnswered, AreReadings, AreAllReadings, AreReadWith, IsOutcome}
use Rattle.tup_readings.specs.Sources.{has_below, has_tupfile, home, settings_of as config_in}
use Rattle.tup_link.specs.Circle.{NoneWaitsForItself}
use Rattle.tup_link.specs.Faults.{early_fault}
use Rattle.tup_link.specs.Groups.{members}
use Rattle.tup_link.specs.Linked.{rules_of}
use Rattle.tup_project.specs.Project.{ComeTo}
use Rattle.tup_demo.specs.Project.{demo_files, demo_tree, demo_tupfile}
use Rattle.tup_demo.proofs.Files.{content_there, demo_entries, of_each}
use Rattle.tup_demo.specs.Build.{demo_rule, demo_rules}
use Rattle.tup_demo.proofs.Building.{source_there}
use Rattle.tup_query.specs.Ask.{asks, settings_of}
use Rattle.tup_query.specs.Reads.{and_then}
use Rattle.tup_query.specs.Text.{taken, expanded}
use Rattle.tup_rule_line.specs.Flagged.{flagged_text}
use Rattle.tup_rule_line.specs.Glob.{names_of_files, glob_of, matched_in, globbed}
use Rattle.tup_rule_line.specs.Input.{literal, from_bin, from_group, from_files, from_other, from_word, from_words}
use Rattle.tup_rule_line.specs.Job.{with_carets, shown, spoken, with_text, with_extra, with_outputs, drafted, with_job, with_jobs}
use Rattle.tup_rule_line.specs.MacroLine.{only_body, named_body, body_in, one_more, with_body, defined}
use Rattle.tup_rule_line.specs.Output.{is_blocked, is_way_blocked, known_output, from_output, from_outputs}
use Rattle.tup_rule_line.specs.RuleLine.{given_to, plan_of, planned, with_words, words_in, ruled}
use Rattle.tup_rule_line.specs.Words.{cut, with_named, with_macro, words_of}
use Rattle.tup_tupfile.specs.Conditional.{compared, compares, looked_up}
use Rattle.tup_tupfile.specs.File.{held_at, held_in, named_file, included_file, lines_of, ended}
use Rattle.tup_tupfile.specs.Opening.{at_levels, opening}
use Rattle.tup_tupfile.specs.Reading.{opened, included, ruled_by, ruled_below, ruled_down, complained, stated, plain_line, with_kind, with_lines, with_file, with_room, opener_of, drafts_in, reading}
use Rattle.tup_tupfile.specs.Setting.{with_value, value_of, assigned}

-- its rule as its Tupfile reads
abbrev demo_draft : Draft
demo_draft = record {
  file = codes "Tupfile" ∷ [];
  line = 1;
  pieces = Text (codes "cp a b") ∷ [];
  display = None;
  compare = false;
  inputs = (codes "a" ∷ []) ∷ [];
  order = [];
  outputs = (codes "b" ∷ []) ∷ [];
  groups = [];
  gives = None;
}

-- what the reading asks: what the Tupfile holds, and what stands at `a` and at `b`
abbrev demo_log : Log
demo_log =
    (query.Content (codes "Tupfile" ∷ []), told.Content (Some demo_tupfile)) ∷ (query.Kind (codes "a" ∷ []), told.Kind File)
    ∷ (query.Kind (codes "b" ∷ []), told.Kind Nothing) ∷ []

-- its Tupfile is a text, and so is what isn't there
tupfile_is_text : is_utf8 demo_tupfile ≡ true
unfolding lib.Utf8.encode
tupfile_is_text = is_utf8-from_IsUtf8 demo_tupfile (demo_tupfile, (refl, refl))

nothing_is_text : is_utf8 [] ≡ true
nothing_is_text = is_utf8-from_IsUtf8 [] ([], (refl, refl))

tupfile_lines : lines demo_tupfile ≡ said (joined_lines demo_tupfile)
tupfile_lines = ap (λ (is : Bool). if is then said (joined_lines demo_tupfile) else Err (NotUtf8 (wrong_line demo_tupfile))) tupfile_is_text

-- the reading once it was told what the Tupfile holds, by the lines of that
abbrev in_lines : Result (List Line) LexFault → Reads ParseFault (List Line)
in_lines cut =
    elim cut as (λ _. Reads ParseFault (List Line)) [
      | Ok all ↦ gives all
      | Err fault ↦ refused (spot [] (codes "Tupfile" ∷ []) (fault_line fault)) (lex_kind fault)
    ]

abbrev goes_on : Result (List Line) LexFault → Reads ParseFault (List Draft)
goes_on cut =
    and_then (and_then (in_lines cut) (λ all. with_lines (Some (with_room 62 [])) [] (codes "Tupfile" ∷ []) (along [] fresh) all))
    (λ state. gives state.drafts)

abbrev first_told : Log
first_told = (query.Content (codes "Tupfile" ∷ []), told.Content (Some demo_tupfile)) ∷ []

ran_on : Ran first_told (goes_on (said (joined_lines demo_tupfile))) demo_log (Ok (demo_draft ∷ []))
unfolding matches_from asks settings_of and_then taken expanded flagged_text names_of_files glob_of matched_in globbed literal from_bin from_group from_files from_other from_word from_words with_carets shown spoken with_text with_extra with_outputs drafted with_job with_jobs only_body named_body body_in one_more with_body defined is_blocked is_way_blocked known_output from_output from_outputs given_to plan_of planned with_words words_in ruled cut with_named with_macro words_of compared compares looked_up held_at held_in named_file included_file lines_of ended at_levels opening opened included ruled_by ruled_below ruled_down complained stated plain_line with_kind with_lines with_file with_room opener_of drafts_in reading with_value value_of assigned
ran_on = (told.Kind File, refl, (told.Kind Nothing, refl, (refl, refl)))

demo_ran : Ran [] (reading []) demo_log (Ok (demo_draft ∷ []))
unfolding asks settings_of and_then taken expanded flagged_text names_of_files glob_of matched_in globbed literal from_bin from_group from_files from_other from_word from_words with_carets shown spoken with_text with_extra with_outputs drafted with_job with_jobs only_body named_body body_in one_more with_body defined is_blocked is_way_blocked known_output from_output from_outputs given_to plan_of planned with_words words_in ruled cut with_named with_macro words_of compared compares looked_up held_at held_in named_file included_file lines_of ended at_levels opening opened included ruled_by ruled_below ruled_down complained stated plain_line with_kind with_lines with_file with_room opener_of drafts_in reading with_value value_of assigned
demo_ran = (told.Content (Some demo_tupfile), refl, subst (λ (cut : Result (List Line) LexFault). Ran first_told (goes_on cut) demo_log (Ok (demo_draft ∷ []))) (sym tupfile_lines) ran_on)

-- ---- what it is told is so

-- what holds of each entry of a log holds of what was told
module _ (P : Question → Told → Type 0) where
  abbrev AllTold : Log → Type 0
  AllTold [] = Unit {0}
  AllTold (entry ∷ log) = P entry.0 entry.1 × AllTold log

  told_in : (log : Log) (question : Question) (answered : Told) → AllTold log → told_before log question ≡ Some answered → P question answered
  told_in [] question answered all e = absurd (let wrong : None ≡ Some answered = e in cc)
  told_in (entry ∷ log) question answered all e = by (same_question question entry.0) refl (told_in log question answered all.1) e
    where
      by : (b : Bool) → same_question question entry.0 ≡ b → (told_before log question ≡ Some answered → P question answered) → cond b (Some entry.1) (told_before log question) ≡ Some answered → P question answered
      by true same behind is =
          let value : entry.1 ≡ answered = cc in
          subst (λ (q : Question). P q answered) (sym (same_question-true question entry.0 same)) (subst (P entry.0) value all.0)
      by false other behind is = behind is

abbrev no_readings : Readings
no_readings = finite.empty

tupfile_there : finite.get demo_tree (codes "Tupfile" ∷ []) ≡ Some demo_tupfile
tupfile_there = finite.get-from_entries by_names-total demo_files (codes "Tupfile" ∷ [])

nothing_there : finite.get demo_tree (codes "b" ∷ []) ≡ None
nothing_there = finite.get-from_entries by_names-total demo_files (codes "b" ∷ [])

-- what is told of a path where this was found there, in a tree with these files
abbrev awaited_by : Names → Option Content → List Names → Option Names
awaited_by path found files = option_and_then (unread demo_tree no_readings []) (if is_some found || has_below files path then None else option_and_then (home demo_tree) (result_ok (above path)))

abbrev kind_by : Names → Option Content → List Names → Told
kind_by path found files =
    told.Kind (if is_some found then File
    else if has_below files path then Dir
    else elim (result_ok (above path)) as (λ _. Kind) [ Some dir ↦ made_kind demo_tree no_readings [] dir path | None ↦ Nothing ])

-- the home of the top, where this was found as its Tupfile
abbrev home_by : Option Content → Option Names
home_by found = if is_some found then Some [] else None

files_are : finite.keys demo_tree ≡ (codes "Tupfile" ∷ []) ∷ (codes "a" ∷ []) ∷ []
files_are = ap (λ (files : List (Names × Content)). map (λ (file : Names × Content). file.0) files) demo_entries

a_is_ready : awaited demo_tree no_readings [] (query.Kind (codes "a" ∷ [])) ≡ None
a_is_ready = ap (λ (found : Option Content). awaited_by (codes "a" ∷ []) found (finite.keys demo_tree)) source_there

a_is_file : told.Kind File ≡ answer demo_tree [] no_readings [] (query.Kind (codes "a" ∷ []))
a_is_file = sym (ap (λ (found : Option Content). kind_by (codes "a" ∷ []) found (finite.keys demo_tree)) source_there)

b_is_ready : awaited demo_tree no_readings [] (query.Kind (codes "b" ∷ [])) ≡ None
b_is_ready =
    ap (λ (found : Option Content). awaited_by (codes "b" ∷ []) found (finite.keys demo_tree)) nothing_there
    ∙ ap (λ (files : List Names). awaited_by (codes "b" ∷ []) None files) files_are
    ∙ ap (λ (found : Option Content). option_and_then (unread demo_tree no_readings []) (home_by found)) tupfile_there

b_is_nothing : told.Kind Nothing ≡ answer demo_tree [] no_readings [] (query.Kind (codes "b" ∷ []))
b_is_nothing =
    sym (ap (λ (found : Option Content). kind_by (codes "b" ∷ []) found (finite.keys demo_tree)) nothing_there
    ∙ ap (λ (files : List Names). kind_by (codes "b" ∷ []) None files) files_are
    ∙ ap (λ (found : Option Content). told.Kind (if is_made (elim (home_by found) as (λ _. List Draft) [ Some folder ↦ other_drafts no_readings [] folder | None ↦ [] ]) (codes "b" ∷ []) then File else Nothing)) tupfile_there)

demo_answered : IsAnswered demo_tree [] no_readings [] demo_log
demo_answered question answered e =
    told_in (λ q a. (awaited demo_tree no_readings [] q ≡ None) × (a ≡ answer demo_tree [] no_readings [] q)) demo_log question answered
    ((refl, ap told.Content (sym tupfile_there)), ((a_is_ready, a_is_file), ((b_is_ready, b_is_nothing), tt))) e

-- ---- the one reading

abbrev demo_reading : Reading
demo_reading = record { drafts = demo_draft ∷ []; asked = noted_log demo_log }

abbrev demo_list : List (Names × Reading)
demo_list = ([], demo_reading) ∷ []

abbrev demo_readings : Readings
demo_readings = finite.insert no_readings [] demo_reading

-- a folder whose Tupfile is one of these files is the top
top_alone : (name : List ℕ) (dir : Names) → name ∷ [] ≡ dir ++ codes "Tupfile" ∷ [] → dir ≡ []
top_alone name [] e = refl
top_alone name (first ∷ []) e = cc
top_alone name (first ∷ next ∷ rest) e = cc

at_top : (dir : Names) → IsTrue (has_tupfile demo_tree dir) → dir ≡ []
at_top dir has =
    let found = content_there (finite.get demo_tree (dir ++ codes "Tupfile" ∷ [])) has in
    of_each (λ (path : Names) (content : Content). (folder : Names) → path ≡ folder ++ codes "Tupfile" ∷ [] → folder ≡ []) demo_tree demo_files (dir ++ codes "Tupfile" ∷ []) found.0 demo_entries
    (top_alone (codes "Tupfile"), (top_alone (codes "a"), tt)) found.1 dir refl

read_there : finite.get demo_readings [] ≡ Some demo_reading
read_there = finite.get-insert by_names-total no_readings [] demo_reading []

top_has : IsTrue (has_tupfile demo_tree [])
top_has = ap is_some tupfile_there

are_readings : AreReadings demo_tree [] ([] ∷ []) demo_readings
are_readings = (no_readings, demo_reading, refl, top_has, finite.get-empty by_names [], record { log = demo_log; answered = demo_answered; ran = demo_ran; noted = refl }, refl)

-- the list has just that reading
list_is : demo_readings ≡ finite.from_sorted demo_list
list_is = finite.same_map by_names-total by_names-antisymmetric demo_readings (finite.from_sorted demo_list) (λ path. finite.get-insert by_names-total no_readings [] demo_reading path ∙ ap (λ (found : Option Reading). cond (eq_by_cmp by_names path []) (Some demo_reading) found) (finite.get-empty by_names path) ∙ sym (finite.get-from_sorted by_names demo_list path tt))

all_read : AreAllReadings demo_tree [] (finite.from_sorted demo_list)
all_read = subst (AreAllReadings demo_tree []) list_is (record {
  some = ([] ∷ [], are_readings);
  all = λ dir has. subst (λ (d : Names). IsSome (finite.get demo_readings d)) (sym (at_top dir has)) (ap is_some read_there);
})

-- tup.config isn't there, and sets nothing
no_config : config_in demo_tree ≡ Ok []
no_config =
    ap (λ (found : Option Content). config_of (unwrap_or found [])) (finite.get-from_entries by_names-total demo_files (codes "tup.config" ∷ []))
    ∙ ap (λ (is : Bool). if is then settings (cut_lines []) else Err (At (wrong_line []) ConfigNotUtf8)) nothing_is_text

outcome : IsOutcome demo_tree (Ok demo_list)
outcome = subst (λ (config : Result Entries ConfigFault). AreReadWith demo_tree config (Ok demo_list)) (sym no_config) (refl, all_read)

-- ---- the one rule

linked : demo_rules ≡ rules_of demo_list
unfolding rules_of members
linked = refl

no_early : early_fault demo_list ≡ None
unfolding early_fault members
no_early = refl

declares_a : (path : Names) → IsTrue (declares demo_rule path) → path ≡ codes "a" ∷ []
declares_a path = by (same_path path (codes "a" ∷ [])) refl
  where
    by : (b : Bool) → same_path path (codes "a" ∷ []) ≡ b → ((b || false) || false) ≡ true → path ≡ codes "a" ∷ []
    by true same h = (same_path-decides path (codes "a" ∷ [])).0 same
    by false other h = cc

-- nobody makes what it declares
makes_none : (at : ℕ) → MakesFor demo_rules demo_rule at → ⊥
makes_none at (path, declares, makes) =
    let wrong : None ≡ Some at = subst (λ (p : Names). maker p demo_rules ≡ Some at) (declares_a path declares) makes in
    cc

no_producer : (between at : ℕ) → ProducerOver between demo_rules demo_rule at → ⊥
no_producer zero at makes = makes_none at makes
no_producer (suc between) at (next, other, makes, stands, more) = makes_none next makes

the_rule : (at : ℕ) (rule : Rule) → slice_get demo_rules at ≡ Some rule → demo_rule ≡ rule
the_rule zero rule e = cc
the_rule (suc at) rule e = cc

no_circle : NoneWaitsForItself demo_rules
no_circle at rule stands (between, over) = no_producer between at (subst (λ (r : Rule). ProducerOver between demo_rules r at) (sym (the_rule at rule stands)) over)

pub come_to : ComeTo demo_tree (Ok demo_rules)
come_to = (demo_list, outcome, record { are = linked; early = no_early; order = no_circle })
