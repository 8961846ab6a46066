use Rattle.std.proofs.Common.{◌≡◌, ◌+◌, ◌-◌, length, take, sym, ap, ◌∙◌, rules, arith}
use Rattle.std.specs.Str.{chars}
use Rattle.tup_glob.proofs.Reading.{bracket_here, bracket_later}
use Rattle.tup_glob.proofs.Texts.{drop_next, rest_within, front_boundary, front_chars}
use Rattle.tup_glob.proofs.read.body.Goals as goal

pub overflow_sub-text : goal.overflow_sub-text
overflow_sub-text c =
    let inv = c.loop-char.invariant in
    rest_within c.args.text.now c.loop-char.rest.now inv.1.0 c.utf8.text inv.0 inv.1.1

pub range-requires-clause-end_boundary : goal.range-requires-clause-end_boundary
range-requires-clause-end_boundary c =
    let inv = c.loop-char.invariant in
    front_boundary c.args.text.now c.loop-char.rest.now inv.1.0 c.utf8.text inv.0 inv.1.1

pub returns-then-char-eq93 : goal.returns-then-char-eq93
returns-then-char-eq93 c =
    let inv = c.loop-char.invariant in
    let text = c.args.text.now in
    let rest = c.loop-char.rest.now in
    let behind = chars c.in_ok-char.behind.now in
    let n = inv.1.0 in
    let cut : length text - length rest - 0 ≡ length text - length rest = omega arith in
    let front = c.range.ensures.value ∙ ap (λ k. take k text) cut in (
      n,
      inv.1.2 ∙ bracket_here (chars rest) behind n c.in_ok-char.char c.in_ok-char.ensures c.if-char-eq93.true,
      front_chars text rest c.range.result.now n c.utf8.text inv.0 c.range.utf8 inv.1.1 front,
      drop_next (chars text) behind n c.in_ok-char.char (sym inv.1.1 ∙ c.in_ok-char.ensures),
    )

pub loop-char-preserved : goal.loop-char-preserved
loop-char-preserved c =
    let inv = c.loop-char.invariant in
    let rest = chars c.loop-char.rest.now in
    let behind = chars c.in_ok-char.behind.now in
    let n = inv.1.0 in
    (search rules, (n + 1, drop_next (chars c.args.text.now) behind n c.in_ok-char.char (sym inv.1.1 ∙ c.in_ok-char.ensures), inv.1.2 ∙ bracket_later rest behind n c.in_ok-char.char c.in_ok-char.ensures c.if-char-eq93.false))
