use Rattle.tup_schedule.proofs.Going.{ask_keeps}
use Rattle.tup_schedule.proofs.course.Course.ask.Goals as goal

pub try_take-requires-clause-beside : goal.try_take-requires-clause-beside
try_take-requires-clause-beside c = ask_keeps c.args.self.now c.args.seat c.in_ok-text.text c.args.answer
