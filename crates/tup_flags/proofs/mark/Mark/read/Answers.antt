use Rattle.std.proofs.Common.{◌≡◌, ◌<◌, [], ◌∷◌, None, Some, drop, length, get_or, sym, ap, ◌∙◌, arith}
use Rattle.std.proofs.lemmas.List.{nil_from_length}
use Rattle.std.proofs.lemmas.Str.{IsCharBoundary-after_ascii}
use Rattle.std.proofs.lemmas.Str.Pattern.{split_parts, strip_prefix_char}
use Rattle.tup_flags.specs.Part.{Flagged, parts, parts_from, Behind, Within}
use Rattle.tup_flags.proofs.Marks.{named-closed, named-open, flag-known, flag-unknown, first-byte, not-open}
use Rattle.tup_flags.proofs.mark.Mark.read.Goals as goal

pub returns-in_err-name-in-Some-clause-parts : goal.returns-in_err-name-in-Some-clause-parts
returns-in_err-name-in-Some-clause-parts c =
    let named = strip_prefix_char 60 c.args.behind.now (Some c.in-Some.named) c.in-Some.ensures.cases (omega arith) in
    let lacks = split_parts 62 c.in-Some.named.now None c.in_err-name-in-Some.ensures.cases (omega arith) in
    rw c.from_residual.ensures (_, [], ap (λ text. parts_from Behind text) named ∙ named-open [] c.in-Some.named.now lacks)

pub returns-in_err-first-in-None-clause-parts : goal.returns-in_err-first-in-None-clause-parts
returns-in_err-first-in-None-clause-parts c =
    let none = nil_from_length c.args.behind.now (omega (arith, c.in_err-first-in-None.ensures.item.3, ap length c.as_bytes.ensures.value)) in
    rw c.from_residual-in_err-first-in-None.ensures (_, [], ap (λ text. parts_from Behind text) none)

pub returns-in_err-flag-in-None-clause-parts : goal.returns-in_err-flag-in-None-clause-parts
returns-in_err-flag-in-None-clause-parts c =
    let behind = c.args.behind.now in
    let byte = c.in_ok-first-in-None.field-0.now in
    let item = c.in_ok-first-in-None.ensures.item in
    let is = first-byte behind c.as_bytes.result.now byte c.as_bytes.ensures.value item.3.0 item.1 in
    let other = not-open behind byte is (strip_prefix_char 60 behind None c.in-None.ensures.cases (omega arith)) in
    rw c.from_residual-in_err-flag-in-None.ensures
    (_, _, ap (λ text. parts_from Behind text) is ∙ flag-unknown byte (drop 1 behind) other (sym c.in_err-flag-in-None.ensures.flag))

pub range_from-requires : goal.range_from-requires
range_from-requires c = λ some.
    let behind = c.args.behind.now in
    let byte = c.in_ok-first-in-None.field-0.now in
    let item = c.in_ok-first-in-None.ensures.item in
    let long : 0 < length behind = omega (arith, item.3.0, ap length c.as_bytes.ensures.value) in
    let first : byte ≡ get_or behind 0 0 = item.3.1 0 ∙ ap (λ text. get_or text 0 0) c.as_bytes.ensures.value in
    IsCharBoundary-after_ascii behind 0 c.utf8.behind long (omega (arith, first, c.in_ok-flag-in-None.ensures.ascii))

pub returns-in_ok-name-in-Some-clause-parts : goal.returns-in_ok-name-in-Some-clause-parts
returns-in_ok-name-in-Some-clause-parts c =
    let named = strip_prefix_char 60 c.args.behind.now (Some c.in-Some.named) c.in-Some.ensures.cases (omega arith) in
    let cut = split_parts 62 c.in-Some.named.now (Some (c.in_ok-name-in-Some.name, c.in_ok-name-in-Some.rest)) c.in_ok-name-in-Some.ensures.cases (omega arith) in
    ap (λ text. parts_from Behind text) named ∙ ap (λ text. parts_from (Within []) text) cut.0
    ∙ named-closed [] c.in_ok-name-in-Some.name.now c.in_ok-name-in-Some.rest.now cut.1

pub returns-in_ok-flag-in-None-clause-parts : goal.returns-in_ok-flag-in-None-clause-parts
returns-in_ok-flag-in-None-clause-parts c =
    let behind = c.args.behind.now in
    let byte = c.in_ok-first-in-None.field-0.now in
    let item = c.in_ok-first-in-None.ensures.item in
    let is = first-byte behind c.as_bytes.result.now byte c.as_bytes.ensures.value item.3.0 item.1 in
    let other = not-open behind byte is (strip_prefix_char 60 behind None c.in-None.ensures.cases (omega arith)) in
    ap (λ text. parts_from Behind text) is
    ∙ flag-known byte (drop 1 behind) c.in_ok-flag-in-None.flag other (sym c.in_ok-flag-in-None.ensures.flag)
    ∙ ap (λ rest. Flagged c.in_ok-flag-in-None.flag ∷ parts rest) (sym c.range_from.ensures.value)
