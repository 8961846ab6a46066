use Rattle.std.proofs.Common.{sym, ◌∙◌}
use Rattle.tup_mini.proofs.Reading.{unknown-at}
use Rattle.tup_mini.proofs.step.MiniStep.read.Goals as goal

pub returns-in_default-as_str : goal.returns-in_default-as_str
returns-in_default-as_str c =
    let not = c.in_default-as_str in
    unknown-at c.args.words.now c.name-item.result c.as_str.result.now c.in-len1-up.len_at_least c.name-item.is c.as_str.ensures.bytes (sym c.has_stray_arrow.ensures ∙ c.if-has_stray_arrow.false)
    not.not-cp not.not-cat not.not-echo not.not-incl not.not-ifexists not.not-fail
