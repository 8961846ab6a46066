use Rattle.std.proofs.Common.{Result, Ok, Err, OnOk, arith}
use Rattle.std.proofs.lemmas.Result.{on_ok_weaker}
use Rattle.tup_table.proofs.Finish.{first_goes, second_goes, third_goes, ends_so, rests_so}
use Rattle.tup_table.proofs.finishing.finish.Goals as goal

both : {T E A B C : Type 0} (result : Result T E) → OnOk result A → OnOk result B → (A → B → C) → OnOk result C
both (Ok value) a b c = c a b
both (Err e) a b c = tt

pub returns-in_err-write_through-clause-crash : goal.returns-in_err-write_through-clause-crash
returns-in_err-write_through-clause-crash g c = λ tells commits switches.
    first_goes g.S.Site.world g.S.Site.moment g.S.Site.left_since commits c.args.area.now c.args.site.now switches c.write_through.new.site (c.write_through.ensures.crash tells)

pub returns-in_err-write_through-2-clause-crash : goal.returns-in_err-write_through-2-clause-crash
returns-in_err-write_through-2-clause-crash g c = λ tells commits switches.
    let site_laws = g.met.S.Site in
    let mid = c.write_through.new.site in
    second_goes g.S.Site.world g.S.Site.moment g.S.Site.left_since commits c.args.area.now c.args.site.now switches mid (c.in_ok-write_through.ensures.written tells) (c.in_ok-write_through.ensures.durable tells)
    (λ t u w le left. site_laws.earlier mid t u w tells le left) (c.write_through.ensures.crash tells) c.write_through-2.new.site (c.write_through-2.ensures.crash tells)

pub returns-clause-crash : goal.returns-clause-crash
returns-clause-crash g c = λ tells commits switches.
    let site_laws = g.met.S.Site in
    let mid = c.write_through.new.site in
    let last = c.write_through-2.new.site in
    third_goes g.S.Site.world g.S.Site.moment g.S.Site.left_since commits c.args.area.now c.args.site.now switches mid (c.in_ok-write_through.ensures.written tells) (c.in_ok-write_through.ensures.durable tells)
    (λ t u w le left. site_laws.earlier mid t u w tells le left) (c.write_through.ensures.crash tells) last (c.in_ok-write_through-2.ensures.written tells) (c.in_ok-write_through-2.ensures.durable tells)
    (λ t u w le left. site_laws.earlier last t u w tells le left) (c.write_through-2.ensures.crash tells) c.cut_through.new.site (c.cut_through.ensures.crash tells)

pub write_through-requires-2 : goal.write_through-requires-2
write_through-requires-2 g c = λ tells. omega (arith, c.requires.inside tells, (c.write_through.ensures.step tells).torn.no_shorter)

pub returns-clause-store : goal.returns-clause-store
returns-clause-store g c = λ tells commits switches.
    let site_laws = g.met.S.Site in
    let mid = c.write_through.new.site in
    let last = c.write_through-2.new.site in
    on_ok_weaker c.cut_through.result
    (ends_so g.S.Site.world g.S.Site.moment g.S.Site.left_since commits c.args.area.now c.args.site.now switches mid (c.in_ok-write_through.ensures.written tells) (c.in_ok-write_through.ensures.durable tells)
    (λ t u w le left. site_laws.earlier mid t u w tells le left) (c.write_through.ensures.crash tells) last (c.in_ok-write_through-2.ensures.written tells) (c.in_ok-write_through-2.ensures.durable tells)
    (λ t u w le left. site_laws.earlier last t u w tells le left) (c.write_through-2.ensures.crash tells) (g.S.Site.world c.cut_through.new.site).store)
    (c.cut_through.ensures.cut tells)

pub returns-clause-rests : goal.returns-clause-rests
returns-clause-rests g c = λ tells commits switches.
    let site_laws = g.met.S.Site in
    let mid = c.write_through.new.site in
    let last = c.write_through-2.new.site in
    both c.cut_through.result (c.cut_through.ensures.cut tells) (c.cut_through.ensures.durable tells)
    (rests_so g.S.Site.world g.S.Site.moment g.S.Site.left_since commits c.args.area.now c.args.site.now switches mid (c.in_ok-write_through.ensures.written tells) (c.in_ok-write_through.ensures.durable tells)
    (λ t u w le left. site_laws.earlier mid t u w tells le left) (c.write_through.ensures.crash tells) last (c.in_ok-write_through-2.ensures.written tells) (c.in_ok-write_through-2.ensures.durable tells)
    (λ t u w le left. site_laws.earlier last t u w tells le left) (c.write_through-2.ensures.crash tells) c.cut_through.new.site)
