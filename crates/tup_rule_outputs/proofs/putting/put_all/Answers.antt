use Rattle.std.proofs.Common.{sym, ◌∙◌, arith}
use Rattle.tup_stale.proofs.Going.{one_more}
use Rattle.tup_stale.proofs.Removals.{beside_one, beside_then}
use Rattle.tup_rule_outputs.specs.Ground.{paths_of}
use Rattle.tup_rule_outputs.proofs.Puts.{path_among, stand_more, all_stand}
use Rattle.tup_rule_outputs.proofs.putting.put_all.Goals as goal

pub put-requires : goal.put-requires
put-requires g c = λ tells.
    c.requires.places tells _ _ (c.loop-file.invariant.beside tells) (path_among c.args.files.now c.loop-file.file-index c.file-item.result (omega arith) (sym c.file-item.is))

pub returns-in_err-put-clause-beside : goal.returns-in_err-put-clause-beside
returns-in_err-put-clause-beside g c = λ tells.
    beside_then (paths_of c.args.files.now) _ _ _ (c.loop-file.invariant.beside tells)
    (beside_one (paths_of c.args.files.now) c.file-item.result.0 _ _ (path_among c.args.files.now c.loop-file.file-index c.file-item.result (omega arith) (sym c.file-item.is)) (c.put.ensures.others tells))

pub returns-in_err-put-clause-crash : goal.returns-in_err-put-clause-crash
returns-in_err-put-clause-crash g c = λ tells.
    let site_laws = g.met.S.Site in
    let mid = c.loop-file.site in
    one_more g.S.Site.moment g.S.Site.left_since (paths_of c.args.files.now) c.args.site.now mid c.put.new.self c.file-item.result.0 _ (λ t u w le left. site_laws.earlier mid t u w tells le left)
    (path_among c.args.files.now c.loop-file.file-index c.file-item.result (omega arith) (sym c.file-item.is)) (c.loop-file.invariant.crash tells) (c.put.ensures.crash tells)

pub loop-file-preserved : goal.loop-file-preserved
loop-file-preserved g c =
    let site_laws = g.met.S.Site in
    let mid = c.loop-file.site in
    let files = c.args.files.now in
    let i = c.loop-file.file-index in
    let file = c.file-item.result in
    let inside = path_among files i file (omega arith) (sym c.file-item.is) in
    record {
      stand = λ tells. stand_more files _ _ i file c.requires.at_once (omega arith) (sym c.file-item.is) (c.in_ok-put.ensures.put tells) (c.loop-file.invariant.stand tells);
      beside = λ tells. beside_then (paths_of files) _ _ _ (c.loop-file.invariant.beside tells) (beside_one (paths_of files) file.0 _ _ inside (c.put.ensures.others tells));
      store = λ tells. c.put.ensures.store tells ∙ c.loop-file.invariant.store tells;
      crash = λ tells.
          one_more g.S.Site.moment g.S.Site.left_since (paths_of files) c.args.site.now mid c.put.new.self file.0 _ (λ t u w le left. site_laws.earlier mid t u w tells le left)
          inside (c.loop-file.invariant.crash tells) (c.put.ensures.crash tells);
      known = λ tells content had. c.put.ensures.known tells content (c.loop-file.invariant.known tells content had);
      counted = c.put.ensures.cause.steady (λ e. cc (c.in_ok-put.was, e)) ∙ c.loop-file.invariant.counted;
    }

pub returns-clause-put : goal.returns-clause-put
returns-clause-put g c = λ tells. all_stand c.args.files.now _ c.loop-file.file-index (omega arith) (c.loop-file.invariant.stand tells)
