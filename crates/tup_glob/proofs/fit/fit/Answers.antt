use Rattle.std.proofs.Common.{sym, ◌∙◌}
use Rattle.std.proofs.lemmas.Bool.{eqb-true, eqb-false}
use Rattle.tup_glob.proofs.Texts.{fit_end, fit_not_end}
use Rattle.tup_glob.proofs.fit.fit.Goals as goal

pub returns-then-is_empty : goal.returns-then-is_empty
returns-then-is_empty c =
    c.loop-symbol.invariant.1
    ∙ fit_end c.args.symbols.now c.loop-symbol.symbol-index c.loop-symbol.rest.now c.loop-symbol-test.false (eqb-true _ _ (sym c.is_empty.ensures ∙ c.if-is_empty.true))

pub returns-else-is_empty : goal.returns-else-is_empty
returns-else-is_empty c =
    c.loop-symbol.invariant.1
    ∙ fit_not_end c.args.symbols.now c.loop-symbol.symbol-index c.loop-symbol.rest.now c.loop-symbol-test.false c.loop-symbol.invariant.0 (eqb-false _ _ (sym c.is_empty.ensures ∙ c.if-is_empty.false))
