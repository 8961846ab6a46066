-- What stays as more folders are read.
use Rattle.std.proofs.Common.{◌≡◌, Bool, true, false, cond, not, ◌&&◌, ◌||◌, List, [], ◌∷◌, ◌++◌, Option, Some, None, IsTrue, IsSome, refl, sym, ap, ◌∙◌, subst}
use Rattle.std.specs.Prelude.{is_none, option_and_then}
use Rattle.std.specs.FinMap as finite
use Rattle.std.specs.Result.{result_ok}
use Rattle.std.proofs.lemmas.Bool.{or_parts}
use Rattle.tup_path.specs.Name.{Names}
use Rattle.tup_path.specs.Order.{by_names-total, same_path, same_path-by_names}
use Rattle.tup_path.specs.Resolve.{above}
use Rattle.tup_path.specs.Tree.{Tree}
use Rattle.tup_path.proofs.Same.{same_path-decides}
use Rattle.tup_rule.specs.Rule.{among}
use Rattle.tup_rule.specs.declared.draft.Draft.{Draft}
use Rattle.tup_rule.specs.declared.question.Kind.{Kind}
use Rattle.tup_rule.specs.declared.question.Kind.TheVariants.{Nothing, File, Dir}
use Rattle.tup_rule.specs.declared.question.Question.{Question}
use Rattle.tup_rule.specs.declared.question.Question.TheVariants as asks
use Rattle.tup_rule.specs.declared.question.Reading.{Reading}
use Rattle.tup_rule.specs.declared.question.Told.TheVariants as told
use Rattle.tup_vars.specs.Table.{Entries}
use Rattle.tup_query.specs.Log.{Log}
use Rattle.tup_rule_line.specs.Glob.{names_among, in_order}
use Rattle.tup_rule_line.specs.State.{made_by, is_made}
use Rattle.tup_readings.specs.Sources.{is_source, has_below, has_tupfile, home}
use Rattle.tup_readings.specs.Answers.{Readings, drafts_of, other_drafts, seen_drafts, made_kind, is_unread, unread, folder_told, awaited, answer}
use Rattle.tup_readings.specs.Readings.{IsAnswered, WaitsFor, IsLine, IsTurn}
use Rattle.tup_readings.proofs.Lines.{turned}
use Rattle.tup_readings.proofs.Waits.{awaited_is, awaited_elsewhere}

-- the reading of a folder once one more is read
pub get_more : (readings : Readings) (new : Names) (left : Reading) (dir : Names) → finite.get (finite.insert readings new left) dir ≡ cond (same_path dir new) (Some left) (finite.get readings dir)
get_more readings new left dir =
    finite.get-insert by_names-total readings new left dir ∙ ap (λ b. cond b (Some left) (finite.get readings dir)) (sym (same_path-by_names dir new))

no_longer : (b c d : Bool) (left : Reading) (found : Option Reading) → (b && c && is_none found) ≡ false → (b && c && is_none (cond d (Some left) found)) ≡ false
no_longer false c d left found e = refl
no_longer true false d left found e = refl
no_longer true true true left found e = refl
no_longer true true false left found e = e

unread-false : (b : Bool) (dir : Names) → cond b (Some dir) None ≡ None → b ≡ false
unread-false true dir e = cc
unread-false false dir e = refl

module _ (sources : Tree) (settings : Entries) (readings : Readings) (new : Names) (left : Reading) (is_new : finite.get readings new ≡ None) (has : IsTrue (has_tupfile sources new)) where
  abbrev more : Readings
  more = finite.insert readings new left

  unread_more : (reader dir : Names) → unread sources readings reader dir ≡ None → unread sources more reader dir ≡ None
  unread_more reader dir e =
      let off : is_unread sources readings reader dir ≡ false = unread-false (is_unread sources readings reader dir) dir e in
      let still : is_unread sources more reader dir ≡ false =
      ap (λ (found : Option Reading). not (same_path reader dir) && has_tupfile sources dir && is_none found) (get_more readings new left dir)
      ∙ no_longer (not (same_path reader dir)) (has_tupfile sources dir) (same_path dir new) left (finite.get readings dir) off in
      ap (λ b. cond b (Some dir) None) still

  -- a folder that needs no reading has the same rules
  other_more : (reader dir : Names) → unread sources readings reader dir ≡ None → other_drafts more reader dir ≡ other_drafts readings reader dir
  other_more reader dir e = by (same_path reader dir) (same_path dir new) refl refl
    where
      off : is_unread sources readings reader dir ≡ false
      off = unread-false (is_unread sources readings reader dir) dir e

      by : (own at : Bool) → same_path reader dir ≡ own → same_path dir new ≡ at → cond own [] (drafts_of more dir) ≡ cond own [] (drafts_of readings dir)
      by true at own is = refl
      by false false own is =
          ap (λ (found : Option Reading). elim found as (λ _. List Draft) [ Some reading ↦ reading.drafts | None ↦ [] ])
          (get_more readings new left dir ∙ ap (λ b. cond b (Some left) (finite.get readings dir)) is)
      by false true own is =
          let dir_is : dir ≡ new = (same_path-decides dir new).0 is in
          let none : finite.get readings dir ≡ None = ap (finite.get readings) dir_is ∙ is_new in
          let there : has_tupfile sources dir ≡ true = ap (has_tupfile sources) dir_is ∙ has in
          let on : is_unread sources readings reader dir ≡ true =
          ap (λ b. not b && has_tupfile sources dir && is_none (finite.get readings dir)) own
          ∙ ap (λ b. b && is_none (finite.get readings dir)) there ∙ ap (λ (found : Option Reading). is_none found) none in
          let wrong : true ≡ false = sym on ∙ off in
          cc

  seen_more : (reader dir : Names) → awaited sources readings reader (asks.Names dir) ≡ None → seen_drafts sources more reader dir ≡ seen_drafts sources readings reader dir
  seen_more reader dir = at (home sources dir)
    where
      at : (found : Option Names) → option_and_then (unread sources readings reader) found ≡ None
          → elim found as (λ _. List Draft) [ Some home ↦ other_drafts more reader home | None ↦ [] ] ≡ elim found as (λ _. List Draft) [ Some home ↦ other_drafts readings reader home | None ↦ [] ]
      at None e = refl
      at (Some home) e = other_more reader home e

  pub awaited_more : (reader : Names) (question : Question) → awaited sources readings reader question ≡ None → awaited sources more reader question ≡ None
  awaited_more reader question = at (folder_told sources question)
    where
      at : (dir : Option Names) → option_and_then (unread sources readings reader) dir ≡ None → option_and_then (unread sources more reader) dir ≡ None
      at None e = refl
      at (Some dir) e = unread_more reader dir e

  answer_more : (reader : Names) (question : Question) → awaited sources readings reader question ≡ None → answer sources settings more reader question ≡ answer sources settings readings reader question
  answer_more reader (asks.Content path) e = refl
  answer_more reader (asks.Config name) e = refl
  answer_more reader (asks.Names dir) e = ap (λ (drafts : List Draft). told.Names (in_order (names_among dir (finite.keys sources ++ made_by drafts)))) (seen_more reader dir e)
  answer_more reader (asks.Kind path) e = ap (λ k. told.Kind k) (by (is_source sources path) (has_below (finite.keys sources) path) e)
    where
      at : (up : Option Names) → option_and_then (unread sources readings reader) (option_and_then (home sources) up) ≡ None
          → elim up as (λ _. Kind) [ Some dir ↦ made_kind sources more reader dir path | None ↦ Nothing ] ≡ elim up as (λ _. Kind) [ Some dir ↦ made_kind sources readings reader dir path | None ↦ Nothing ]
      at None e = refl
      at (Some dir) e = ap (λ (drafts : List Draft). cond (is_made drafts path) File Nothing) (seen_more reader dir e)

      by : (one two : Bool) → option_and_then (unread sources readings reader) (cond (one || two) None (option_and_then (home sources) (result_ok (above path)))) ≡ None
          → cond one File (cond two Dir (elim (result_ok (above path)) as (λ _. Kind) [ Some dir ↦ made_kind sources more reader dir path | None ↦ Nothing ]))
          ≡ cond one File (cond two Dir (elim (result_ok (above path)) as (λ _. Kind) [ Some dir ↦ made_kind sources readings reader dir path | None ↦ Nothing ]))
      by true two e = refl
      by false true e = refl
      by false false e = at (result_ok (above path)) e

  pub answered_more : (reader : Names) (log : Log) → IsAnswered sources settings readings reader log → IsAnswered sources settings more reader log
  answered_more reader log all question told e =
      let before = all question told e in
      (awaited_more reader question before.0, before.1 ∙ sym (answer_more reader question before.0))

  -- one waits on for a folder that isn't read
  still_none : (dir next : Names) → same_path next new ≡ false → WaitsFor sources settings readings dir next → finite.get more next ≡ None
  still_none dir next apart waits =
      get_more readings new left next ∙ ap (λ b. cond b (Some left) (finite.get readings next)) apart ∙ (awaited_is sources readings dir next waits.question waits.waits).1.none

  pub waits_more : (dir next : Names) → same_path next new ≡ false → WaitsFor sources settings readings dir next → WaitsFor sources settings more dir next
  waits_more dir next apart waits = record {
    has = waits.has;
    log = waits.log;
    answered = answered_more dir waits.log waits.answered;
    question = waits.question;
    halts = waits.halts;
    waits = awaited_elsewhere sources readings more dir next waits.question waits.waits (still_none dir next apart waits);
  }

  pub line_more : (dirs : List Names) → among new dirs ≡ false → IsLine sources settings readings dirs → IsLine sources settings more dirs
  line_more [] none line = tt
  line_more (dir ∷ []) none line = tt
  line_more (dir ∷ next ∷ rest) none line =
      let later = or_parts (same_path new dir) (among new (next ∷ rest)) none in
      let apart = or_parts (same_path new next) (among new rest) later.1 in
      (waits_more dir next (turned new next apart.0) line.0, line_more (next ∷ rest) later.1 line.1)

  pub some_more : (dir : Names) → IsSome (finite.get readings dir) → IsSome (finite.get more dir)
  some_more dir some = subst IsSome (sym (get_more readings new left dir)) (kept (same_path dir new) some)
    where
      kept : (b : Bool) → IsSome (finite.get readings dir) → IsSome (cond b (Some left) (finite.get readings dir))
      kept true some = refl
      kept false some = some

  pub turn_more : (dirs : List Names) → IsTurn sources settings readings dirs → IsTurn sources settings more dirs
  turn_more [] turn = tt
  turn_more (first ∷ rest) turn = λ dir has less. some_more dir (turn dir has less)
