use Rattle.std.proofs.Common.{◌≡◌, ◌⊎◌, ℕ, Err, ap, sym, ◌∙◌, subst}
use Rattle.tup_vars.specs.Branches.{entered}
use Rattle.tup_vars.specs.declared.fault.VarFault.TheVariants as kept
use Rattle.tup_tupfile.proofs.Openings.{levels-ok, levels-failed}
use Rattle.tup_tupfile.proofs.opening.entered.Goals as goal

pub returns-in-Ok : goal.returns-in-Ok
returns-in-Ok c =
    let a = c.args in
    levels-ok a.at.now a.before.state (entered a.before.levels a.at.now.line a.on) c.enter.new.self
    (ap (λ (line : ℕ). entered a.before.levels line a.on) (sym c.line.ensures) ∙ c.in-Ok.ensures.entered)

pub returns-in-Err : goal.returns-in-Err
returns-in-Err c =
    let a = c.args in
    let refused = subst (λ (line : ℕ). (c.in-Err.fault ≡ kept.Memory) ⊎ (entered a.before.levels line a.on ≡ Err c.in-Err.fault)) c.line.ensures c.in-Err.ensures.refused in
    levels-failed a.at.now a.before.state (entered a.before.levels a.at.now.line a.on) c.in-Err.fault c.var_end.result c.var_end.ensures.refusal c.var_end.ensures.memory refused
