use Rattle.std.proofs.Common.{◌≡◌, true, sym, ◌∙◌}
use Rattle.std.specs.Cmp.Lexicographic.{bytes_decides}
use Rattle.std.specs.Str.{bytes_eq}
use Rattle.tup_fs.proofs.answers.Answers.is_next.Goals as goal

pub returns-in-Some : goal.returns-in-Some
returns-in-Some c = λ yes.
    let same : bytes_eq c.as_str.result.now c.args.place.now ≡ true = sym c.eq.ensures ∙ yes in (
      c.in-Some.next.now,
      c.in-Some.field-0-1.now,
      sym c.in-Some.ensures.entry,
      sym c.as_str.ensures.value ∙ (bytes_decides c.as_str.result.now c.args.place.now).0 same,
    )
