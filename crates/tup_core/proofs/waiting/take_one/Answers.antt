use Rattle.std.proofs.Common.{◌≡◌, ℕ, Bool, sym, ap, ◌∙◌, refl, arith}
use Rattle.std.specs.Prelude.{if◌then◌else◌}
use Rattle.tup_clean.specs.Queue.{count_of}
use Rattle.tup_clean.proofs.Counting.{one_if-same}
use Rattle.tup_core.specs.Waiting.{times, is_last}
use Rattle.tup_core.proofs.WalkLaws.{list_at}
use Rattle.tup_core.proofs.waiting.take_one.Goals as goal

pub lower_one-requires : goal.lower_one-requires
lower_one-requires c =
    let enough = c.requires.taken c.args.place in
    let one = one_if-same c.args.place c.args.place refl in
    omega (arith, enough, one)

pub take_each-requires : goal.take_each-requires
take_each-requires c = λ at.
    let is = list_at c.args.lists.now c.args.place c.index-lists-place.result c.as_slice.result.now c.requires.place c.as_slice.ensures c.index-lists-place.is in
    let all : ◌≡◌ {A = ℕ} (if is_last c.args.reached.now c.args.waits.now c.args.place then times c.args.lists.now c.args.place at else 0) (times c.args.lists.now c.args.place at) =
    ap (λ (b : Bool). if b then times c.args.lists.now c.args.place at else 0) (sym c.is_last-last.ensures ∙ c.if-last.true) in
    let enough = c.requires.taken at in
    let lowered = c.lower_one.ensures at in
    let same : count_of at c.as_slice.result.now ≡ times c.args.lists.now c.args.place at = ap (count_of at) is in
    omega (arith, all, enough, lowered, same)

pub returns-then-last : goal.returns-then-last
returns-then-last c = λ at.
    let is = list_at c.args.lists.now c.args.place c.index-lists-place.result c.as_slice.result.now c.requires.place c.as_slice.ensures c.index-lists-place.is in
    let all : ◌≡◌ {A = ℕ} (if is_last c.args.reached.now c.args.waits.now c.args.place then times c.args.lists.now c.args.place at else 0) (times c.args.lists.now c.args.place at) =
    ap (λ (b : Bool). if b then times c.args.lists.now c.args.place at else 0) (sym c.is_last-last.ensures ∙ c.if-last.true) in
    let lowered = c.lower_one.ensures at in
    let taken_away = c.take_each.ensures at in
    let same : count_of at c.as_slice.result.now ≡ times c.args.lists.now c.args.place at = ap (count_of at) is in
    omega (arith, all, lowered, taken_away, same)

pub returns-else-last : goal.returns-else-last
returns-else-last c = λ at.
    let none : ◌≡◌ {A = ℕ} (if is_last c.args.reached.now c.args.waits.now c.args.place then times c.args.lists.now c.args.place at else 0) 0 =
    ap (λ (b : Bool). if b then times c.args.lists.now c.args.place at else 0) (sym c.is_last-last.ensures ∙ c.if-last.false) in
    let lowered = c.lower_one.ensures at in
    omega (arith, none, lowered)
