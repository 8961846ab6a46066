use Rattle.std.proofs.Common.{sym, subst}
use Rattle.std.specs.FinMap as finite
use Rattle.std.specs.Prelude.{OnOk}
use Rattle.std.proofs.lemmas.Result.{on_ok_weaker}
use Rattle.tup_record.specs.declared.record.Record.{Record}
use Rattle.tup_graph.specs.Edits.{without}
use Rattle.tup_readers.specs.Suspects.{AreSuspects}
use Rattle.tup_readers.proofs.Suspecting.{gone_elsewhere, seen_moved}
use Rattle.tup_readers.proofs.suspects.Suspects.leave_out.Goals as goal

pub returns-in-Seen : goal.returns-in-Seen
returns-in-Seen c =
    let g = c.args.nodes.now in
    subst (λ (r : Record). OnOk c.add_users.result (AreSuspects (without g r).seen (without g r).runs c.add_users.new.self)) (sym c.in-Seen.is)
    (on_ok_weaker c.add_users.result
    (seen_moved g (finite.remove g.seen c.in-Seen.path) c.in-Seen.path c.args.self.now.numbers c.add_users.new.self.numbers
    (gone_elsewhere g.seen c.in-Seen.path) c.requires.suspects) (c.add_users.ensures g c.requires.prints))
