use Rattle.std.proofs.Common.{sym, subst}
use Rattle.std.specs.FinMap as finite
use Rattle.std.specs.Prelude.{OnOk}
use Rattle.std.proofs.lemmas.Result.{on_ok_weaker}
use Rattle.tup_record.specs.declared.record.Record.{Record}
use Rattle.tup_graph.specs.Opening.{put}
use Rattle.tup_readers.specs.Suspects.{AreSuspects}
use Rattle.tup_readers.proofs.Suspecting.{put_elsewhere, seen_moved}
use Rattle.tup_readers.proofs.suspects.Suspects.put.Goals as goal

pub returns-in-Seen : goal.returns-in-Seen
returns-in-Seen c =
    let g = c.args.nodes.now in
    let stamp = c.in-Seen.stamp in
    subst (λ (r : Record). OnOk c.add_users.result (AreSuspects (put g r).seen (put g r).runs c.add_users.new.self)) (sym c.in-Seen.is)
    (on_ok_weaker c.add_users.result
    (seen_moved g (finite.insert g.seen c.in-Seen.path stamp) c.in-Seen.path c.args.self.now.numbers c.add_users.new.self.numbers
    (put_elsewhere g.seen c.in-Seen.path stamp) c.requires.suspects) (c.add_users.ensures g c.requires.prints))

pub returns-in-Run : goal.returns-in-Run
returns-in-Run c =
    let g = c.args.nodes.now in
    subst (λ (r : Record). OnOk c.renew.result (AreSuspects (put g r).seen (put g r).runs c.renew.new.self)) (sym c.in-Run.is) c.renew.ensures
