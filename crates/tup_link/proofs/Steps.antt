-- How many steps a walk has left after one step, and a walk that is over.
use Rattle.std.proofs.Common.{◌≡◌, ℕ, zero, suc, ◌+◌, ◌<◌, List, [], ◌∷◌, length, get_or, set, sym, ap, ◌∙◌, arith}
use Rattle.std.specs.List.{sum_by}
use Rattle.std.proofs.lemmas.List.Sums.{sum_by-set}
use Rattle.std.proofs.lemmas.Option.{unwrap_or-slice_get}
use Rattle.tup_link.specs.declared.walk.State.{State}
use Rattle.tup_link.specs.declared.walk.State.TheVariants.{New, OnWay, Done}
use Rattle.tup_link.specs.declared.walk.Walk.{Walk}
use Rattle.tup_link.specs.Graph.{led_to}
use Rattle.tup_link.specs.Walk.{state, steps_at, to_pass, steps_left, Enters, Leaves, Passes}

to_pass-set : (graph : List (List ℕ)) (passed : List ℕ) (at : ℕ) → at < length graph → at < length passed → get_or passed at 0 < length (led_to graph at) →
    to_pass graph (set passed at (get_or passed at 0 + 1)) + 1 ≡ to_pass graph passed
to_pass-set [] passed at less _ _ = absurd (omega arith)
to_pass-set (list ∷ graph) [] at _ less _ = absurd (omega arith)
to_pass-set (list ∷ graph) (n ∷ passed) zero _ _ some = omega arith
to_pass-set (list ∷ graph) (n ∷ passed) (suc at) within inside some =
    let more = to_pass-set graph passed at (omega arith) (omega arith) some in omega (arith, more)

steps-set : (old new : Walk) (at : ℕ) (was v : State) → new.states.items ≡ set old.states.items at v → at < length old.states.items → state old at ≡ was →
    sum_by steps_at new.states.items + steps_at was ≡ sum_by steps_at old.states.items + steps_at v
steps-set old new at was v e less is =
    ap (λ (states : List State). sum_by steps_at states + steps_at was) e
    ∙ ap (λ (s : State). sum_by steps_at (set old.states.items at v) + steps_at s) (sym is ∙ unwrap_or-slice_get old.states.items at New)
    ∙ sum_by-set steps_at old.states.items at v New less

pub fewer-entered : (graph : List (List ℕ)) (old new : Walk) (at : ℕ) → Enters at old new → at < length old.states.items → state old at ≡ New → steps_left graph new < steps_left graph old
fewer-entered graph old new at enters less is =
    let one = steps-set old new at New OnWay enters.states less is in
    let two = ap (to_pass graph) enters.passed in
    omega (arith, one, two)

pub fewer-left : (graph : List (List ℕ)) (old new : Walk) (at : ℕ) → Leaves at old new → at < length old.states.items → state old at ≡ OnWay → steps_left graph new < steps_left graph old
fewer-left graph old new at leaves less is =
    let one = steps-set old new at OnWay Done leaves.states less is in
    let two = ap (to_pass graph) leaves.passed in
    omega (arith, one, two)

pub fewer-past : (graph : List (List ℕ)) (old new : Walk) (at : ℕ) → Passes at old new → at < length graph → at < length old.passed.items → get_or old.passed.items at 0 < length (led_to graph at) →
    steps_left graph new < steps_left graph old
fewer-past graph old new at passes within inside some =
    let one = to_pass-set graph old.passed.items at within inside some in
    let two = ap (to_pass graph) passes.passed in
    let three = ap (sum_by steps_at) passes.states in
    omega (arith, one, two, three)
