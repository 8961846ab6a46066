use Rattle.std.proofs.Common.{◌∙◌, ap, sym}
use Rattle.std.specs.Option.{option_copied}
use Rattle.std.specs.Str.{chars}
use Rattle.tup_glob.proofs.Ends.{ends_otherwise}
use Rattle.tup_glob.proofs.fit.may_end.Goals as goal

pub returns : goal.returns
returns c = λ off.
    ends_otherwise c.args.symbols.now (chars c.args.name.now) c.in-Some.symbol.now (chars c.in-Some-last_char.field-0-0.now) c.in-Some-last_char.char
    (sym c.last.ensures.value ∙ ap option_copied c.in-Some.is) c.in-Some-last_char.ensures (sym c.accepts.ensures ∙ off)
