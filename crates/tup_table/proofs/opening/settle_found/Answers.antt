use Rattle.std.proofs.Common.{◌≡◌, Result, Ok, Err, OnOk, inr, sym, ap, subst, ◌∙◌}
use Rattle.std.proofs.lemmas.Result.{on_ok_weaker}
use Rattle.tup_table.specs.Images.{EndStep, OpenStep, rested}
use Rattle.tup_table.specs.Reading.{WasFound, opened_by}
use Rattle.tup_table.specs.Table.{StandsFor, table_of}
use Rattle.tup_table.specs.declared.found.Found.{Found}
use Rattle.tup_table.specs.declared.opened.Opened.{Opened}
use Rattle.tup_table.proofs.Ends.{low_inside, low_ends, open_step}
use Rattle.tup_table.proofs.Going.{as_step}
use Rattle.tup_table.proofs.Settling.{rested_low, stands_low}
use Rattle.tup_table.proofs.opening.settle_found.Goals as goal

both : {T E A B C : Type 0} (result : Result T E) → OnOk result A → OnOk result B → (A → B → C) → OnOk result C
both (Ok value) a b c = c a b
both (Err e) a b c = tt

-- ---- the low area
pub close_end-requires : goal.close_end-requires
close_end-requires g c =
    let was = subst (WasFound c.args.bytes.now) c.in-Low.is c.requires.found in
    let opened = c.in-Low.opened in
    record {
      inside = low_inside was.0 c.args.bytes.now was.1 opened.gate (ap (λ (o : Opened). o.gate) was.2);
      ends = low_ends was.0 c.args.bytes.now was.1 opened.gate (ap (λ (o : Opened). o.gate) was.2);
      bytes = c.requires.bytes;
      durable = c.requires.durable;
    }

pub returns-in-Low-clause-store : goal.returns-in-Low-clause-store
returns-in-Low-clause-store g c = λ tells.
    let was = subst (WasFound c.args.bytes.now) c.in-Low.is c.requires.found in
    let opened = c.in-Low.opened in
    let by : opened ≡ opened_by c.args.found.now = sym (ap opened_by c.in-Low.is) in
    on_ok_weaker c.close_end.result (λ closed. closed ∙ sym (rested_low c.args.bytes.now was.0 was.1 opened) ∙ ap (rested c.args.bytes.now) by) (c.close_end.ensures.store tells)

pub returns-in-Low-clause-stands : goal.returns-in-Low-clause-stands
returns-in-Low-clause-stands g c = λ tells.
    let was = subst (WasFound c.args.bytes.now) c.in-Low.is c.requires.found in
    let opened = c.in-Low.opened in
    let new = c.close_end.new.site in
    both c.close_end.result (c.close_end.ensures.store tells) (c.close_end.ensures.durable tells)
    (λ closed pins. subst (λ (f : Found). StandsFor g.S.Site.world g.S.Site.moment g.S.Site.left_since (table_of (opened_by f)) new) (sym c.in-Low.is)
    (stands_low g.S.Site.world g.S.Site.moment g.S.Site.left_since c.args.bytes.now was.0 was.1 opened was.2 new closed pins))

pub returns-in-Low-clause-keeps : goal.returns-in-Low-clause-keeps
returns-in-Low-clause-keeps g c = λ tells.
    let was = subst (WasFound c.args.bytes.now) c.in-Low.is c.requires.found in
    let opened = c.in-Low.opened in
    inr
    (open_step was.0 c.args.bytes.now was.1 opened.gate (ap (λ (o : Opened). o.gate) was.2) (g.S.Site.world c.args.site.now) (g.S.Site.world c.close_end.new.site) (sym (c.requires.bytes tells))
    (c.close_end.ensures.step tells))

pub returns-in-Low-clause-crash : goal.returns-in-Low-clause-crash
returns-in-Low-clause-crash g c = λ tells.
    let was = subst (WasFound c.args.bytes.now) c.in-Low.is c.requires.found in
    let opened = c.in-Low.opened in
    as_step g.S.Site.moment g.S.Site.left_since c.args.site.now c.close_end.new.site (EndStep opened.gate c.args.bytes.now) OpenStep
    (λ v w left step.
    open_step was.0 c.args.bytes.now was.1 opened.gate (ap (λ (o : Opened). o.gate) was.2) v w (c.requires.durable tells v left ∙ sym (c.requires.bytes tells)) step)
    (c.close_end.ensures.crash tells)

-- ---- the high area
pub settle_high-requires : goal.settle_high-requires
settle_high-requires g c = record { found = subst (WasFound c.args.bytes.now) c.in-High.is c.requires.found; bytes = c.requires.bytes; durable = c.requires.durable }

pub returns-in-High-clause-store : goal.returns-in-High-clause-store
returns-in-High-clause-store g c = λ tells.
    let new = c.settle_high.new.site in
    subst (λ (f : Found). OnOk c.settle_high.result ((g.S.Site.world new).store ≡ rested c.args.bytes.now (opened_by f))) (sym c.in-High.is) (c.settle_high.ensures.store tells)

pub returns-in-High-clause-stands : goal.returns-in-High-clause-stands
returns-in-High-clause-stands g c = λ tells.
    let new = c.settle_high.new.site in
    subst (λ (f : Found). OnOk c.settle_high.result (StandsFor g.S.Site.world g.S.Site.moment g.S.Site.left_since (table_of (opened_by f)) new)) (sym c.in-High.is) (c.settle_high.ensures.stands tells)
