use Rattle.std.proofs.Common.{refl, sym, ◌∙◌}
use Rattle.std.proofs.lemmas.Result.{on_ok_weaker}
use Rattle.tup_table.proofs.Openings.{high_inside, high_ends, close_opens, switches_on, finish_opens_so}
use Rattle.tup_table.proofs.Settling.{stands_high, stored_high, high_long, opening_now}
use Rattle.tup_table.proofs.opening.settle_high.Goals as goal

pub close_end-requires : goal.close_end-requires
close_end-requires g c =
    let was = c.requires.found in
    record {
      inside = high_inside c.args.bytes.now was.0 was.1 c.args.end was.4;
      ends = high_ends c.args.bytes.now was.0 was.1 c.args.end was.4;
      bytes = c.requires.bytes;
      durable = c.requires.durable;
    }

pub finish-requires : goal.finish-requires
finish-requires g c = record {
  inside = λ tells.
      let was = c.requires.found in
      let mid = c.close_end.new.site in
      high_long (g.S.Site.world mid).store was.0
      (switches_on g.S.Site.world g.S.Site.moment g.S.Site.left_since c.args.bytes.now was.0 was.1 c.args.end was.4 c.args.site.now (sym (c.requires.bytes tells)) (c.requires.durable tells) mid
      (c.in_ok-close_end.ensures.store tells) c.args.snapshot.now.area was.3 (c.in_ok-close_end.ensures.durable tells)).high;
}

pub returns-in_err-close_end-clause-crash : goal.returns-in_err-close_end-clause-crash
returns-in_err-close_end-clause-crash g c = λ tells.
    let was = c.requires.found in
    close_opens g.S.Site.world g.S.Site.moment g.S.Site.left_since c.args.bytes.now was.0 was.1 c.args.end was.4 c.args.site.now (sym (c.requires.bytes tells)) (c.requires.durable tells) c.close_end.new.site
    (c.close_end.ensures.crash tells)

pub returns-in_err-close_end-clause-keeps : goal.returns-in_err-close_end-clause-keeps
returns-in_err-close_end-clause-keeps g c = λ tells.
    let site_laws = g.met.S.Site in
    let was = c.requires.found in
    let new = c.close_end.new.site in
    opening_now g.S.Site.world g.S.Site.moment g.S.Site.left_since c.args.site.now new (c.requires.durable tells) (c.close_end.ensures.tree tells) (λ t u w le left. site_laws.earlier new t u w tells le left) (site_laws.present new tells)
    (close_opens g.S.Site.world g.S.Site.moment g.S.Site.left_since c.args.bytes.now was.0 was.1 c.args.end was.4 c.args.site.now (sym (c.requires.bytes tells)) (c.requires.durable tells) new (c.close_end.ensures.crash tells))

pub returns-clause-crash : goal.returns-clause-crash
returns-clause-crash g c = λ tells.
    let site_laws = g.met.S.Site in
    let world = g.S.Site.world in
    let moment = g.S.Site.moment in
    let left_since = g.S.Site.left_since in
    let was = c.requires.found in
    let mid = c.close_end.new.site in
    let closed = c.in_ok-close_end.ensures.store tells in
    let here = sym (c.requires.bytes tells) in
    let switches =
    switches_on world moment left_since c.args.bytes.now was.0 was.1 c.args.end was.4 c.args.site.now here (c.requires.durable tells) mid closed c.as_slice.result.now (c.as_slice.ensures ∙ was.3)
    (c.in_ok-close_end.ensures.durable tells) in
    finish_opens_so world moment left_since c.args.bytes.now was.0 was.1 c.args.end was.4 c.args.site.now here (c.requires.durable tells) mid closed c.finish.new.site (λ t u w le left. site_laws.earlier mid t u w tells le left)
    (c.close_end.ensures.crash tells) (c.finish.ensures.crash tells was.0 switches)

pub returns-clause-keeps : goal.returns-clause-keeps
returns-clause-keeps g c = λ tells.
    let site_laws = g.met.S.Site in
    let world = g.S.Site.world in
    let moment = g.S.Site.moment in
    let left_since = g.S.Site.left_since in
    let was = c.requires.found in
    let mid = c.close_end.new.site in
    let new = c.finish.new.site in
    let closed = c.in_ok-close_end.ensures.store tells in
    let here = sym (c.requires.bytes tells) in
    let switches =
    switches_on world moment left_since c.args.bytes.now was.0 was.1 c.args.end was.4 c.args.site.now here (c.requires.durable tells) mid closed c.as_slice.result.now (c.as_slice.ensures ∙ was.3)
    (c.in_ok-close_end.ensures.durable tells) in
    opening_now world moment left_since c.args.site.now new (c.requires.durable tells) (c.finish.ensures.tree tells ∙ c.close_end.ensures.tree tells) (λ t u w le left. site_laws.earlier new t u w tells le left) (site_laws.present new tells)
    (finish_opens_so world moment left_since c.args.bytes.now was.0 was.1 c.args.end was.4 c.args.site.now here (c.requires.durable tells) mid closed new (λ t u w le left. site_laws.earlier mid t u w tells le left)
    (c.close_end.ensures.crash tells) (c.finish.ensures.crash tells was.0 switches))

pub returns-clause-store : goal.returns-clause-store
returns-clause-store g c = λ tells.
    let world = g.S.Site.world in
    let moment = g.S.Site.moment in
    let left_since = g.S.Site.left_since in
    let was = c.requires.found in
    let mid = c.close_end.new.site in
    let closed = c.in_ok-close_end.ensures.store tells in
    let here = sym (c.requires.bytes tells) in
    let switches =
    switches_on world moment left_since c.args.bytes.now was.0 was.1 c.args.end was.4 c.args.site.now here (c.requires.durable tells) mid closed c.as_slice.result.now (c.as_slice.ensures ∙ was.3)
    (c.in_ok-close_end.ensures.durable tells) in
    on_ok_weaker c.finish.result
    (λ there. stored_high c.args.bytes.now was.0 was.1 (world mid).store switches.high refl c.args.snapshot.now.opened was.2 (world c.finish.new.site).store there)
    (c.finish.ensures.store tells was.0 switches)

pub returns-clause-stands : goal.returns-clause-stands
returns-clause-stands g c = λ tells.
    let world = g.S.Site.world in
    let moment = g.S.Site.moment in
    let left_since = g.S.Site.left_since in
    let was = c.requires.found in
    let mid = c.close_end.new.site in
    let closed = c.in_ok-close_end.ensures.store tells in
    let here = sym (c.requires.bytes tells) in
    let new = c.finish.new.site in
    let switches =
    switches_on world moment left_since c.args.bytes.now was.0 was.1 c.args.end was.4 c.args.site.now here (c.requires.durable tells) mid closed c.as_slice.result.now (c.as_slice.ensures ∙ was.3)
    (c.in_ok-close_end.ensures.durable tells) in
    on_ok_weaker c.finish.result
    (stands_high world moment left_since was.0 c.args.snapshot.now.opened was.2 new)
    (c.finish.ensures.rests tells was.0 switches)
