use Rattle.std.proofs.Common.{List, length, sym, ap, ◌∙◌}
use Rattle.std.specs.FinMap as finite
use Rattle.std.proofs.lemmas.Bool.{eqb-true}
use Rattle.tup_path.proofs.Maps.{no_entries}
use Rattle.tup_phases.proofs.Brought.{ended}
use Rattle.tup_phases.proofs.bringing.brings_nothing.Goals as goal
use Rattle.tup_phases.proofs.bringing.brings_nothing.Goals.{then-len-eq0, else-len-eq0}

pub returns-then-len-eq0-2 : goal.returns-then-len-eq0-2
returns-then-len-eq0-2 c = λ none. elim c.if-len-eq0.branch [
  | then-len-eq0 w ↦ record {
    created =
        finite.empty_of_len c.args.nodes.now.created
        (finite.len-entries c.args.nodes.now.created ∙ ap (λ (l : List _). length l) (sym c.created.ensures ∙ (ended c.next.result c.is_none.result _ _ c.is_none.ensures none c.next.ensures.steps).0));
    fresh = no_entries c.args.found.now.fresh (sym c.len.ensures ∙ w.if-len-eq0.true);
    gone = no_entries c.args.found.now.gone (sym w.len-then-len-eq0.ensures ∙ eqb-true w.len-then-len-eq0.result 0 (sym w.value-is ∙ c.if-len-eq0-2.true));
  }
  | else-len-eq0 w ↦ absurd (w.if-len-eq0.false (eqb-true c.len.result 0 (sym w.value-is ∙ c.if-len-eq0-2.true)))
]
