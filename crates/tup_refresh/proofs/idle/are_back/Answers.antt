use Rattle.std.proofs.Common.{◌≡◌, false, true, not, sym, subst, ◌∙◌, take_all}
use Rattle.std.proofs.lemmas.Bool.{not-false}
use Rattle.std.proofs.lemmas.List.Elements.{All-more, All-nil}
use Rattle.tup_path.specs.Name.{Names}
use Rattle.tup_path.proofs.Same.{same_path-decides}
use Rattle.tup_rule.specs.declared.question.Noted.{Noted}
use Rattle.tup_rule.specs.declared.question.Question.{Question}
use Rattle.tup_graph.specs.Graph.{GraphState}
use Rattle.tup_refresh.specs.Idle.{AreBack, AsksBack, IsBack}
use Rattle.tup_refresh.proofs.Upward.{asks_from, asks_none, own_is_back}
use Rattle.tup_refresh.proofs.idle.are_back.Goals.{in-Some+else-ne, else-ne-via-then-ne+else-not-is_back, else-ne-via-else-ne, in_default}
use Rattle.tup_refresh.proofs.idle.are_back.Goals as goal

-- a question asks about no folder with a later home
abbrev Back : GraphState → Names → Question × Noted → Type 0
Back g reader one = AsksBack g reader one.0

pub loop-one-init : goal.loop-one-init
loop-one-init c = (All-nil (Back c.args.nodes.now c.names-reader.result.now), own_is_back c.args.nodes.now c.names-reader.result.now)

pub loop-one-preserved : goal.loop-one-preserved
loop-one-preserved c =
    let g = c.args.nodes.now in
    let reader = c.names-reader.result.now in
    let one = c.one-item.result in
    let both : AsksBack g reader c.question.result.now × IsBack g reader c.match-dir.last.now =
    elim c.match-dir.branch [
      | in-Some+else-ne w ↦
          let there : IsBack g reader w.in-Some.dir.now = elim w.else-ne.branch [
            | else-ne-via-then-ne+else-not-is_back v ↦ subst (AsksBack g reader) (v.question-then-ne.ensures ∙ sym c.question.ensures) (v.is_back.ensures v.if-not-is_back.false) w.in-Some.dir.now w.in-Some.ensures
            | else-ne-via-else-ne v ↦ subst (IsBack g reader) (sym ((same_path-decides w.in-Some.dir.now c.loop-one.last.now).0 (not-false _ (sym w.ne.ensures ∙ v.if-ne.false)))) c.loop-one.invariant.1
          ] in
          (asks_from g reader c.question.result.now w.in-Some.dir.now w.in-Some.ensures there, rw w.last-is there)
      | in_default w ↦ (asks_none g reader c.question.result.now w.in_default.ensures, rw w.last-is c.loop-one.invariant.1)
    ] in
    (All-more (Back g reader) c.args.asked.now c.loop-one.one-index one c.loop-one-test.true c.loop-one.invariant.0 (subst (Back g reader) c.one-item.is (subst (AsksBack g reader) c.question.ensures both.0)), both.1)

pub returns : goal.returns
returns c = λ is.
    subst (λ (r : Names). AreBack c.args.nodes.now r c.args.asked.now) c.names-reader.ensures.names
    (subst (AreBack c.args.nodes.now c.names-reader.result.now) (take_all c.loop-one.one-index c.args.asked.now c.loop-one-test.false) c.loop-one.invariant.0)
