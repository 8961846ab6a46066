use Rattle.std.proofs.Common.{sym, ◌∙◌, arith}
use Rattle.tup_stale.proofs.Going.{one_more}
use Rattle.tup_stale.proofs.Removals.{among_at, part_tried, without_more}
use Rattle.tup_stale.proofs.removing.remove_all.Goals as goal

pub returns-in_err-remove-clause-part : goal.returns-in_err-remove-clause-part
returns-in_err-remove-clause-part g c = λ tells.
    part_tried _ _ _ c.args.files.now c.loop-path.path-index c.path-item.result (omega arith) (sym c.path-item.is) (c.loop-path.invariant.removed tells) (c.remove.ensures.others tells)

pub returns-in_err-remove-clause-crash : goal.returns-in_err-remove-clause-crash
returns-in_err-remove-clause-crash g c = λ tells.
    let site_laws = g.met.S.Site in
    let mid = c.loop-path.site in
    one_more g.S.Site.moment g.S.Site.left_since c.args.files.now c.args.site.now mid c.remove.new.self c.path-item.result _ (λ t u w le left. site_laws.earlier mid t u w tells le left)
    (among_at c.args.files.now c.loop-path.path-index c.path-item.result (omega arith) (sym c.path-item.is)) (c.loop-path.invariant.crash tells) (c.remove.ensures.crash tells)

pub loop-path-preserved : goal.loop-path-preserved
loop-path-preserved g c =
    let site_laws = g.met.S.Site in
    let mid = c.loop-path.site in
    let files = c.args.files.now in
    let i = c.loop-path.path-index in
    let path = c.path-item.result in
    record {
      removed = λ tells. c.in_ok-remove.ensures.removed tells ∙ without_more _ _ files i path (omega arith) (sym c.path-item.is) (c.loop-path.invariant.removed tells);
      store = λ tells. c.remove.ensures.store tells ∙ c.loop-path.invariant.store tells;
      crash = λ tells.
          one_more g.S.Site.moment g.S.Site.left_since files c.args.site.now mid c.remove.new.self path _ (λ t u w le left. site_laws.earlier mid t u w tells le left)
          (among_at files i path (omega arith) (sym c.path-item.is)) (c.loop-path.invariant.crash tells) (c.remove.ensures.crash tells);
      known = λ tells content had. c.remove.ensures.known tells content (c.loop-path.invariant.known tells content had);
      counted = c.remove.ensures.cause.steady (λ e. cc (c.in_ok-remove.was, e)) ∙ c.loop-path.invariant.counted;
    }
