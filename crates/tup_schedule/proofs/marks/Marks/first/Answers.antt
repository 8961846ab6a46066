use Rattle.std.proofs.Common.{◌≡◌, ◌*◌, ◌+◌, ℕ, sym, ap, ◌∙◌, subst, arith}
use Rattle.tup_core.specs.Waiting.{flag}
use Rattle.tup_schedule.proofs.MarksLaws.{IsLeftmost, read_flag, some_place_marked, leftmost_first, leftmost_left, leftmost_right, leftmost_last, none_marked}
use Rattle.tup_schedule.proofs.marks.Marks.first.Goals as goal

pub returns-then-not-index : goal.returns-then-not-index
returns-then-not-index c =
    let some = some_place_marked c.args.self.now c.requires in
    let many = c.requires.many in
    λ at. none_marked c.args.self.now at c.requires (read_flag c.args.self.now.nodes.items 1 c.index.result.now (omega (arith, some, many)) c.index.ensures ∙ c.if-not-index.true)

pub down-init : goal.down-init
down-init c =
    let some = some_place_marked c.args.self.now c.requires in
    let many = c.requires.many in
    leftmost_first c.args.self.now c.requires (read_flag c.args.self.now.nodes.items 1 c.index.result.now (omega (arith, some, many)) c.index.ensures ∙ c.if-not-index.false)

pub down-preserved-then-not-index-2 : goal.down-preserved-then-not-index-2
down-preserved-then-not-index-2 c =
    let twice : c.down.node * 2 ≡ 2 * c.down.node = omega arith in
    let many = c.requires.many in
    subst (λ (n : ℕ). IsLeftmost c.args.self.now (n + 1)) (sym twice)
    (leftmost_right c.args.self.now c.down.node c.requires c.down.invariant c.down-test.true
    (ap (flag c.args.self.now.nodes.items) (sym twice)
    ∙ read_flag c.args.self.now.nodes.items (c.down.node * 2) c.index-in-down.result.now (omega (arith, many, c.down-test.true)) c.index-in-down.ensures ∙ c.if-not-index-2.true))

pub down-preserved : goal.down-preserved
down-preserved c =
    let twice : c.down.node * 2 ≡ 2 * c.down.node = omega arith in
    let many = c.requires.many in
    subst (λ (n : ℕ). IsLeftmost c.args.self.now n) (sym twice)
    (leftmost_left c.args.self.now c.down.node c.requires c.down.invariant c.down-test.true
    (ap (flag c.args.self.now.nodes.items) (sym twice)
    ∙ read_flag c.args.self.now.nodes.items (c.down.node * 2) c.index-in-down.result.now (omega (arith, many, c.down-test.true)) c.index-in-down.ensures ∙ c.if-not-index-2.false))

pub returns : goal.returns
returns c = leftmost_last c.args.self.now c.down.node c.down.invariant c.down-test.false
