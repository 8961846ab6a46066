use Rattle.std.proofs.Common.{arith}
use Rattle.std.proofs.lemmas.Str.Pattern.{NoCharPasses-char, contains_char}
use Rattle.tup_flags.proofs.Dots.{cut-last, without-extension, without-slash, without-none}
use Rattle.tup_flags.proofs.shown.without_extension.Goals as goal

pub returns-in-Some : goal.returns-in-Some
returns-in-Some c =
    let h = c.in-Some.ensures.cases in
    without-extension c.args.text.now c.in-Some.front.now c.in-Some.behind.now
    (cut-last 46 c.args.text.now c.in-Some.front.now c.in-Some.behind.now h.0 h.1 h.2 h.3 h.4 (omega arith))
    (λ i l. NoCharPasses-char 47 c.in-Some.behind.now i c.if-not-contains.ensures.cases (omega arith) l)

pub returns-in_default : goal.returns-in_default
returns-in_default c =
    let h = c.in-Some.ensures.cases in
    let slash = (contains_char 47 c.in-Some.behind.now c.contains.result c.contains.ensures.cases (omega arith)).0 c.if-not-contains.false in
    without-slash c.args.text.now c.in-Some.front.now c.in-Some.behind.now
    (cut-last 46 c.args.text.now c.in-Some.front.now c.in-Some.behind.now h.0 h.1 h.2 h.3 h.4 (omega arith))
    slash.0 slash.1 slash.2

pub returns-in_default-2 : goal.returns-in_default-2
returns-in_default-2 c =
    let none = rw c.in_default.is at c.rsplit_once.ensures.cases in
    without-none c.args.text.now (λ i l. NoCharPasses-char 46 c.args.text.now i none (omega arith) l)
