use Rattle.std.proofs.Common.{lit<, ap, ◌∙◌, filter}
use Rattle.std.proofs.lemmas.Iterator.Consumers.{YieldsList-at, YieldsList-end}
use Rattle.std.proofs.lemmas.Iterator.Splits.{YieldsList-from_str_split}
use Rattle.tup_mini.specs.Words.{is_word}
use Rattle.tup_mini.proofs.word.words.Goals as goal

pub returns : goal.returns
returns c =
    let cut = c.split-part-items.ensures in
    let seen = YieldsList-end
    (YieldsList-at c.into_iter-part-iterator.ensures.into_iter_gives (YieldsList-from_str_split 32 c.args.text.now (lit< tt) (cut.text ∙ c.as_str.ensures.bytes) cut.has_more cut.pattern))
    c.loop-part.yielded _ c.loop-part.yielded_by _ _ c.in-None.is c.next.ensures.steps in
    c.loop-part.invariant.2 ∙ ap (filter is_word) seen.0
