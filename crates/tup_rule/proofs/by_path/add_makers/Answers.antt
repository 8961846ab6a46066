use Rattle.std.proofs.Common.{ℕ, List, Option, [], ◌∷◌, ◌++◌, append_assoc, take, sym, ap, ◌∙◌}
use Rattle.std.proofs.lemmas.List.{append-nil}
use Rattle.std.specs.List.{cons_option}
use Rattle.std.specs.Option.{option_copied}
use Rattle.tup_rule.specs.Makers.{makers_in}
use Rattle.tup_rule.proofs.Making.{makers_in-more}
use Rattle.tup_rule.proofs.by_path.add_makers.Goals as goal
use Rattle.tup_rule.proofs.by_path.add_makers.Goals.{in-Some+in_ok-push, in_default}

pub loop-path-preserved : goal.loop-path-preserved
loop-path-preserved c =
    let front = makers_in c.args.makers.now (take c.loop-path.path-index c.args.paths.now) in
    let more = makers_in-more c.args.makers.now c.args.paths.now c.loop-path.path-index c.path-item.result c.loop-path-test.true c.path-item.is in
    elim c.match-get.branch [
      | in-Some+in_ok-push w ↦
          let found = sym c.get.ensures.value ∙ ap option_copied w.in-Some.is in
          rw w.found-is (w.in_ok-push.ensures.items ∙ ap (λ (items : List ℕ). items ++ w.in-Some.at.now ∷ []) c.loop-path.invariant ∙ append_assoc c.args.found.now.items front (w.in-Some.at.now ∷ [])
          ∙ ap (λ (items : List ℕ). c.args.found.now.items ++ items) (sym (more ∙ ap (λ (o : Option ℕ). front ++ cons_option o []) found)))
      | in_default w ↦
          let none = sym c.get.ensures.value ∙ ap option_copied w.in_default.is in
          rw w.found-is (c.loop-path.invariant ∙ ap (λ (items : List ℕ). c.args.found.now.items ++ items) (sym (more ∙ ap (λ (o : Option ℕ). front ++ cons_option o []) none ∙ append-nil front)))
    ]
