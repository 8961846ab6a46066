use Rattle.std.proofs.Common.{arith}
use Rattle.std.proofs.lemmas.Str.Pattern.{NoCharPasses-char}
use Rattle.tup_flags.proofs.Dots.{cut-last, extension-cut, extension-none}
use Rattle.tup_flags.proofs.shown.extension.Goals as goal

pub returns-in-Some : goal.returns-in-Some
returns-in-Some c =
    let h = c.in-Some.ensures.cases in
    extension-cut c.args.name.now c.in-Some.field-0-0.now c.in-Some.extension.now
    (cut-last 46 c.args.name.now c.in-Some.field-0-0.now c.in-Some.extension.now h.0 h.1 h.2 h.3 h.4 (omega arith))

pub returns-in-None : goal.returns-in-None
returns-in-None c = extension-none c.args.name.now (λ i l. NoCharPasses-char 46 c.args.name.now i c.in-None.ensures.cases (omega arith) l)
