use Rattle.std.proofs.Common.{List, ℕ, ◌-◌, ◌++◌, length, drop, take, subst, sym, ap, ◌∙◌}
use Rattle.tup_link.specs.Circle.{IsRound}
use Rattle.tup_link.specs.Graph.{Leads}
use Rattle.tup_link.proofs.Going.{round_read, rest_whole}
use Rattle.tup_link.proofs.walk.Walk.round.Goals as goal

pub returns : goal.returns
returns c = λ graph is back.
    let at = c.index_of-at.result in
    let way = c.deref-2.result.now in
    let here = c.index_of-at.ensures in
    let copied = c.in_ok-add_all.ensures ∙ ap (λ (l : List ℕ). l ++ take (length way - at) (drop at way)) c.new-places.ensures ∙ rest_whole way at in
    subst (λ (l : List ℕ). IsRound (Leads graph) l) (sym copied)
    (round_read graph c.args.self.now c.args.back at c.deref.result.now way c.deref.ensures.value c.deref-2.ensures.value is back here.within here.before here.here)
