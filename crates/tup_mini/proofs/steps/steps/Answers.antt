use Rattle.std.proofs.Common.{List, ℕ, ap, ◌∙◌, map, rules, tests}
use Rattle.std.proofs.lemmas.Iterator.Consumers.{YieldsList-at, YieldsList-end}
use Rattle.std.proofs.lemmas.Iterator.Splits.{YieldsList-from_slice_split}
use Rattle.std.specs.List.{slice_split}
use Rattle.tup_mini.specs.Steps.{step_of, is_and}
use Rattle.tup_mini.proofs.steps.steps.Goals as goal

pub returns : goal.returns
returns c =
    let cut = c.split-part-items.ensures in
    let seen = YieldsList-end
    (YieldsList-at c.into_iter-part-iterator.ensures.into_iter_gives (YieldsList-from_slice_split _ is_and c.in_ok-words.words.items (cut.rest ∙ c.deref.ensures.value) cut.done cut.closure (λ x b q k. search (rules, tests))))
    c.loop-part.yielded _ c.loop-part.yielded_by _ _ c.in-None.is c.next.ensures.steps in
    c.loop-part.invariant.2 ∙ ap (map step_of) seen.0 ∙ ap (λ (w : List (List ℕ)). map step_of (slice_split is_and w)) c.in_ok-words.ensures
