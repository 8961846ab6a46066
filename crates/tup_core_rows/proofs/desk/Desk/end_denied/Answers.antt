use Rattle.tup_core_rows.proofs.Seats.{ended_last}
use Rattle.tup_core_rows.proofs.desk.Desk.end_denied.Goals as goal

pub returns : goal.returns
returns c = ended_last c.args.seat c.args.self.now.course c.finish_denied.new.self c.finish_denied.ensures
