use Rattle.std.proofs.Common.{◌≡◌, List, get_or, sym, ap, ◌∙◌}
use Rattle.std.specs.Prelude.{Some}
use Rattle.std.proofs.lemmas.Option.{get_or_from_slice_get}
use Rattle.tup_rule.specs.declared.rule.Rule.{Rule}
use Rattle.tup_board.specs.Seat.{is_granted}
use Rattle.tup_workers.proofs.Performed.{begins_at}
use Rattle.tup_workers.proofs.performing.performed.Goals as goal

pub invariant_of-view : goal.invariant_of-view
invariant_of-view g c =
    let starts = c.requires.starts in
    let it = c.index-as_slice-rule.result in
    let same : it ≡ starts.rule = c.index-as_slice-rule.is ∙ ap (λ (rules : List Rule). get_or rules c.args.rule it) c.as_slice.ensures ∙ get_or_from_slice_get c.args.plan.now.rules c.args.rule starts.rule it starts.placed in record {
      belongs = ∣ c.requires.at.0 ∣₁;
      of_board = c.requires.at.1;
      placed = begins_at c.args.plan.now (g.K.Asking.told_at c.args.seat.now).entries c.args.rule starts it (starts.placed ∙ ap (λ (rule : Rule). Some rule) (sym same));
      goes = λ none. ap is_granted starts.here;
    }
