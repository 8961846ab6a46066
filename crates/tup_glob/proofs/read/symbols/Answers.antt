use Rattle.std.proofs.Common.{sym, ap, ◌∙◌, rules}
use Rattle.std.specs.Str.{chars}
use Rattle.tup_glob.specs.Read.{onto, symbols_of}
use Rattle.tup_glob.proofs.Reading.{symbols_next}
use Rattle.tup_glob.proofs.read.symbols.Goals as goal

pub loop-char-preserved : goal.loop-char-preserved
loop-char-preserved c = (
  search rules,
  ap (λ all. onto all (symbols_of c.in_ok-symbol.behind.now)) c.in_ok-push.ensures.ok
      ∙ sym (symbols_next c.loop-char.all (chars c.loop-char.rest.now) (chars c.in-Some.more.now) (chars c.in_ok-symbol.behind.now) c.in-Some.char c.in_ok-symbol.symbol c.in-Some.ensures c.in_ok-symbol.ensures.ok)
      ∙ c.loop-char.invariant.1,
)
