use Rattle.std.proofs.Common.{◌≡◌, Bool, true, false, List, ℕ, [], ◌∷◌, sym, subst, ◌∙◌}
use Rattle.std.proofs.lemmas.Bool.{false≢true}
use Rattle.std.proofs.lemmas.Result.{on_ok_weaker}
use Rattle.tup_site.specs.Crash.{WriteStep}
use Rattle.tup_site.specs.Store.{Holds}
use Rattle.tup_table.specs.Images.{EndStep}
use Rattle.tup_table.proofs.Ends.{as_it_was, no_step, end_step, end_closed}
use Rattle.tup_table.proofs.Going.{as_step}
use Rattle.tup_table.proofs.writing.close_end.Goals as goal

not_so : {P : Type 0} (answer : Bool) → (P → answer ≡ true) → answer ≡ false → P → ⊥
not_so answer if_so is_false p = absurd (false≢true (sym is_false ∙ if_so p))

pub returns-then-lacks_gate-clause-store : goal.returns-then-lacks_gate-clause-store
returns-then-lacks_gate-clause-store g c = λ tells.
    let gate = c.args.gate in
    let bytes = c.args.bytes.now in
    let lacks = c.lacks_gate.ensures.0 c.if-lacks_gate.true in
    let new = (g.S.Site.world c.write_through.new.site).store in
    on_ok_weaker c.write_through.result
    (λ holds. end_closed gate bytes c.requires.inside lacks new (subst (λ (s : List ℕ). Holds s gate (0 ∷ []) new) (sym (c.requires.bytes tells)) holds))
    (c.write_through.ensures.written tells)

pub returns-then-lacks_gate-clause-crash : goal.returns-then-lacks_gate-clause-crash
returns-then-lacks_gate-clause-crash g c = λ tells.
    let gate = c.args.gate in
    let bytes = c.args.bytes.now in
    let lacks = c.lacks_gate.ensures.0 c.if-lacks_gate.true in
    as_step g.S.Site.moment g.S.Site.left_since c.args.site.now c.write_through.new.site (WriteStep gate 1) (EndStep gate bytes)
    (λ v w left step. end_step gate bytes c.requires.inside lacks v w (c.requires.durable tells v left ∙ sym (c.requires.bytes tells)) step)
    (c.write_through.ensures.crash tells)

pub returns-clause-store : goal.returns-clause-store
returns-clause-store g c = λ tells.
    as_it_was c.args.gate c.args.bytes.now c.requires.inside (g.S.Site.world c.args.site.now).store c.requires.ends
    (not_so c.lacks_gate.result c.lacks_gate.ensures.1 c.if-lacks_gate.false) (sym (c.requires.bytes tells))

pub returns-then-lacks_gate-clause-step : goal.returns-then-lacks_gate-clause-step
returns-then-lacks_gate-clause-step g c = λ tells.
    let gate = c.args.gate in
    let bytes = c.args.bytes.now in
    let lacks = c.lacks_gate.ensures.0 c.if-lacks_gate.true in
    end_step gate bytes c.requires.inside lacks (g.S.Site.world c.args.site.now) (g.S.Site.world c.write_through.new.site) (sym (c.requires.bytes tells)) (c.write_through.ensures.step tells)

pub returns-clause-step : goal.returns-clause-step
returns-clause-step g c = λ tells.
    no_step c.args.gate c.args.bytes.now c.requires.inside (g.S.Site.world c.args.site.now) (sym (c.requires.bytes tells))
