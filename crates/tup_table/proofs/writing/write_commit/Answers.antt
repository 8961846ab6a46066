use Rattle.std.proofs.Common.{Result, Ok, Err, OnOk, length}
use Rattle.std.proofs.lemmas.Result.{on_ok_weaker}
use Rattle.tup_table.proofs.Rested.{first_goes, commit_goes, rests_after, bytes_after, first_range, whole_range, first_behind, both_behind}
use Rattle.tup_table.proofs.writing.write_commit.Goals as goal

both : {T E A B C : Type 0} (result : Result T E) → OnOk result A → OnOk result B → (A → B → C) → OnOk result C
both (Ok value) a b c = c a b
both (Err e) a b c = tt

pub returns-in_err-write_through-clause-crash : goal.returns-in_err-write_through-clause-crash
returns-in_err-write_through-clause-crash g c = λ tells commits changes rests next.
    first_goes g.S.Site.world g.S.Site.moment g.S.Site.left_since commits changes c.args.gate c.args.bytes.now c.args.site.now rests next c.write_through.new.site (c.write_through.ensures.crash tells)

pub returns-clause-rests : goal.returns-clause-rests
returns-clause-rests g c = λ tells commits changes rests next.
    both c.write_through-2.result (c.write_through-2.ensures.written tells) (c.write_through-2.ensures.durable tells)
    (rests_after g.S.Site.world g.S.Site.moment g.S.Site.left_since commits changes c.args.gate c.args.bytes.now c.args.site.now rests next c.write_through.new.site
    (c.in_ok-write_through.ensures.written tells) (c.in_ok-write_through.ensures.durable tells) c.write_through-2.new.site)

pub returns-clause-crash : goal.returns-clause-crash
returns-clause-crash g c = λ tells commits changes rests next.
    let site_laws = g.met.S.Site in
    let mid = c.write_through.new.site in
    commit_goes g.S.Site.world g.S.Site.moment g.S.Site.left_since commits changes c.args.gate c.args.bytes.now c.args.site.now rests next mid
    (c.in_ok-write_through.ensures.written tells) (c.in_ok-write_through.ensures.durable tells) c.write_through-2.new.site (λ t u w le left. site_laws.earlier mid t u w tells le left)
    (c.write_through.ensures.crash tells) (c.write_through-2.ensures.crash tells)

pub returns-clause-bytes : goal.returns-clause-bytes
returns-clause-bytes g c = λ tells commits changes rests next.
    on_ok_weaker c.write_through-2.result
    (bytes_after g.S.Site.world g.S.Site.moment g.S.Site.left_since commits changes c.args.gate c.args.bytes.now c.args.site.now rests next c.write_through.new.site
    (c.in_ok-write_through.ensures.written tells) (c.in_ok-write_through.ensures.durable tells) c.write_through-2.new.site)
    (c.write_through-2.ensures.written tells)

pub returns-in_err-write_through-clause-step : goal.returns-in_err-write_through-clause-step
returns-in_err-write_through-clause-step g c = λ tells.
    first_range c.args.gate (length c.args.bytes.now) (g.S.Site.world c.args.site.now) (g.S.Site.world c.write_through.new.site) (c.write_through.ensures.step tells)

pub returns-clause-step : goal.returns-clause-step
returns-clause-step g c = λ tells.
    whole_range c.args.gate (length c.args.bytes.now) (g.S.Site.world c.args.site.now) (g.S.Site.world c.write_through.new.site) (g.S.Site.world c.write_through-2.new.site)
    (c.write_through.ensures.step tells) (c.write_through-2.ensures.step tells)

pub returns-in_err-write_through-clause-behind : goal.returns-in_err-write_through-clause-behind
returns-in_err-write_through-clause-behind g c = λ tells.
    first_behind g.S.Site.moment g.S.Site.left_since c.args.gate (length c.args.bytes.now) c.args.site.now c.write_through.new.site (c.write_through.ensures.crash tells)

pub returns-clause-behind : goal.returns-clause-behind
returns-clause-behind g c = λ tells.
    let site_laws = g.met.S.Site in
    let mid = c.write_through.new.site in
    both_behind g.S.Site.moment g.S.Site.left_since c.args.gate (length c.args.bytes.now) c.args.site.now mid c.write_through-2.new.site (λ t u w le left. site_laws.earlier mid t u w tells le left)
    (c.write_through.ensures.crash tells) (c.write_through-2.ensures.crash tells)
