use denote.Param.Send.{sendable}
use Rattle.std.proofs.Crossing.{crosses}
use Rattle.tup_mini.proofs.mini.Mini.TheSendSync as of_mini
use Rattle.tup_large.proofs.Begun.{is_life, none_counted}
use Rattle.tup_large.proofs.show.live.Goals as goal

pub history-ends-requires-send-R : goal.history-ends-requires-send-R
history-ends-requires-send-R g c κs lives = search (sendable, crosses, of_mini.the_send) depth 20

pub returns : goal.returns
returns g c = λ folders new.
    let printed = c.new-printed.ensures in
    is_life c.args.start.site _ _ _ _ c.history-ends.result.ends c.history-ends.result.refused c.args.start.turns.items _ folders new (none_counted c.args.start.crew.items c.requires.idle) c.requires.idle printed.faultless printed.empty c.requires.turns
    c.history-ends.ensures.lived c.history-ends.ensures.kept
