-- Kept readings that stand, and fresh ones, as more folders are read.
use Rattle.std.proofs.Common.{◌≡◌, ◌⊎◌, inl, inr, [], ◌∷◌, Bool, true, false, cond, List, Option, Some, None, IsTrue, refl, sym, ap, ◌∙◌, subst}
use Rattle.std.specs.FinMap as finite
use Rattle.std.proofs.lemmas.List.Elements.{All-weaker}
use Rattle.tup_path.specs.Name.{Names}
use Rattle.tup_path.specs.Order.{by_names, same_path}
use Rattle.tup_path.specs.Tree.{Tree}
use Rattle.tup_path.proofs.Same.{same_path-decides}
use Rattle.tup_rule.specs.Question.{noted as kept_as}
use Rattle.tup_rule.specs.declared.question.Noted.{Noted}
use Rattle.tup_rule.specs.declared.question.Question.{Question}
use Rattle.tup_rule.specs.declared.question.Reading.{Reading}
use Rattle.tup_vars.specs.Table.{Entries}
use Rattle.tup_query.specs.Log.{Log}
use Rattle.tup_query.proofs.Asking.{told_push}
use Rattle.tup_query.proofs.Runs.{told_new}
use Rattle.tup_rule.specs.declared.question.Told.{Told}
use Rattle.tup_readings.specs.Answers.{Readings, awaited, answer}
use Rattle.tup_readings.specs.Readings.{IsAnswered}
use Rattle.tup_readings.specs.Sources.{has_tupfile}
use Rattle.tup_readings.proofs.More.{get_more, awaited_more, answered_more}
use Rattle.tup_graph.specs.Graph.{GraphState}
use Rattle.tup_refresh.specs.Found.{StandsNot}
use Rattle.tup_refresh.specs.Refresh.{kept_reading}
use Rattle.tup_refresh.specs.Standing.{Stands, IsOther, AllStand}
use Rattle.tup_refresh.specs.Walk.{AreParted}

-- one of two at a path
either : (b : Bool) (left one : Reading) (found : Option Reading) → cond b (Some left) found ≡ Some one → ((b ≡ true) × (left ≡ one)) ⊎ ((b ≡ false) × (found ≡ Some one))
either true left one found e = let same : left ≡ one = cc in inl (refl, same)
either false left one found e = inr (refl, e)

-- none at a path
neither : (b : Bool) (left : Reading) (found : Option Reading) → cond b (Some left) found ≡ None → (b ≡ false) × (found ≡ None)
neither true left found e = cc
neither false left found e = (refl, e)

module _ (sources : Tree) (settings : Entries) (readings : Readings) (new : Names) (left : Reading) (is_new : finite.get readings new ≡ None) (has : IsTrue (has_tupfile sources new)) where
  abbrev more : Readings
  more = finite.insert readings new left

  -- an answer that waits for no reading stays
  answer_stays : (dir : Names) (question : Question) → awaited sources readings dir question ≡ None → answer sources settings more dir question ≡ answer sources settings readings dir question
  answer_stays dir question ready = sym (answered_more sources settings readings new left is_new has dir log alone question given (told_new [] question given refl)).1
    where
      given : Told
      given = answer sources settings readings dir question

      log : Log
      log = (question, answer sources settings readings dir question) ∷ []

      alone : IsAnswered sources settings readings dir ((question, answer sources settings readings dir question) ∷ [])
      alone other found e = elim (told_push [] question other (answer sources settings readings dir question) found e) [
        | inl none ↦ absurd (nothing found none)
        | inr same ↦ (ap (awaited sources readings dir) same.0 ∙ ready, sym same.1 ∙ ap (answer sources settings readings dir) (sym same.0))
      ]
        where
          nothing : (found : Told) → None ≡ Some found → ⊥
          nothing found none = cc

  stands_on : (dir : Names) (one : Question × Noted) → Stands sources settings readings dir one → Stands sources settings more dir one
  stands_on dir one so =
      (awaited_more sources settings readings new left is_new has dir one.0 so.0, ap kept_as (answer_stays dir one.0 so.0) ∙ so.1)

  pub all_stand_on : (dir : Names) (asked : List (Question × Noted)) → AllStand sources settings readings dir asked → AllStand sources settings more dir asked
  all_stand_on dir asked so = All-weaker (Stands sources settings readings dir) (Stands sources settings more dir) (stands_on dir) asked so

  is_other_on : (dir : Names) (one : Question × Noted) → IsOther sources settings readings dir one → IsOther sources settings more dir one
  is_other_on dir one other =
      (awaited_more sources settings readings new left is_new has dir one.0 other.0, λ e. other.1 (sym (ap kept_as (answer_stays dir one.0 other.0)) ∙ e))

  pub stands_not_on : (dir : Names) (kept : Option Reading) → StandsNot sources settings readings dir kept → StandsNot sources settings more dir kept
  stands_not_on dir kept (inl none) = inl none
  stands_not_on dir kept (inr (was, is, (one, there, other))) = inr (was, is, (one, there, is_other_on dir one other))

  -- a fresh one is noted
  pub part_fresh : (g : GraphState) (fresh : Readings) → AreParted g sources settings readings fresh → StandsNot sources settings readings new (kept_reading g new)
      → AreParted g sources settings more (finite.insert fresh new left)
  part_fresh g fresh parted not = record {
    read = λ dir one e. elim (either (same_path dir new) left one (finite.get fresh dir) (sym (get_more fresh new left dir) ∙ e)) [
      | inl here ↦ (
        get_more readings new left dir ∙ ap (λ b. cond b (Some left) (finite.get readings dir)) here.0 ∙ ap (λ r. Some r) here.1,
        subst (λ d. StandsNot sources settings more d (kept_reading g d)) (sym ((same_path-decides dir new).0 here.0)) (stands_not_on new (kept_reading g new) not),
      )
      | inr there ↦
          let before = parted.read dir one there.1 in
          (get_more readings new left dir ∙ ap (λ b. cond b (Some left) (finite.get readings dir)) there.0 ∙ before.0, stands_not_on dir (kept_reading g dir) before.1)
    ];
    kept = λ dir one e none.
        let apart = neither (same_path dir new) left (finite.get fresh dir) (sym (get_more fresh new left dir) ∙ none) in
        let before = parted.kept dir one (sym (get_more readings new left dir ∙ ap (λ b. cond b (Some left) (finite.get readings dir)) apart.0) ∙ e) apart.1 in
        (before.0, all_stand_on dir one.asked before.1);
  }

  -- a kept one that stands is noted
  pub part_kept : (g : GraphState) (fresh : Readings) → AreParted g sources settings readings fresh → kept_reading g new ≡ Some left → AllStand sources settings readings new left.asked
      → AreParted g sources settings more fresh
  part_kept g fresh parted is so = record {
    read = λ dir one e.
        let before = parted.read dir one e in
        (elsewhere dir one before.0 (same_path dir new) refl, stands_not_on dir (kept_reading g dir) before.1);
    kept = λ dir one e none. elim (either (same_path dir new) left one (finite.get readings dir) (sym (get_more readings new left dir) ∙ e)) [
      | inl here ↦
          let same : new ≡ dir = sym ((same_path-decides dir new).0 here.0) in (
            subst (λ d. kept_reading g d ≡ Some one) same (is ∙ ap (λ r. Some r) here.1),
            subst (λ d. AllStand sources settings more d one.asked) same (subst (λ (r : Reading). AllStand sources settings more new r.asked) here.1 (all_stand_on new left.asked so)),
          )
      | inr there ↦
          let before = parted.kept dir one there.1 none in
          (before.0, all_stand_on dir one.asked before.1)
    ];
  }
    where
      elsewhere : (dir : Names) (one : Reading) → finite.get readings dir ≡ Some one → (b : Bool) → same_path dir new ≡ b → finite.get more dir ≡ Some one
      elsewhere dir one found false apart = get_more readings new left dir ∙ ap (λ b. cond b (Some left) (finite.get readings dir)) apart ∙ found
      elsewhere dir one found true is =
          let wrong : None ≡ Some one = sym is_new ∙ ap (finite.get readings) (sym ((same_path-decides dir new).0 is)) ∙ found in
          cc

-- at the start nothing is read
pub part_none : (g : GraphState) (sources : Tree) (settings : Entries) (readings fresh : Readings) → readings ≡ finite.empty → fresh ≡ finite.empty → AreParted g sources settings readings fresh
part_none g sources settings readings fresh none nothing = record {
  read = λ dir one e. absurd (not_there fresh nothing dir one e);
  kept = λ dir one e without. absurd (not_there readings none dir one e);
}
  where
    not_there : (m : Readings) → m ≡ finite.empty → (dir : Names) (one : Reading) → finite.get m dir ≡ Some one → ⊥
    not_there m is dir one e =
        let wrong : None ≡ Some one = sym (finite.get-empty by_names dir) ∙ sym (ap (λ r. finite.get r dir) is) ∙ e in
        cc
