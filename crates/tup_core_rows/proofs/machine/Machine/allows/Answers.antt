use Rattle.std.proofs.Common.{sym, ap, ◌∙◌}
use Rattle.std.specs.Option.{option_copied}
use Rattle.tup_core_rows.proofs.Machines.{all_told, none_told}
use Rattle.tup_core_rows.proofs.machine.Machine.allows.Goals as goal

pub allows_to-requires-clause-rule : goal.allows_to-requires-clause-rule
allows_to-requires-clause-rule c = (c.requires.core.running c.args.seat c.in-Some.running.now (sym c.running.ensures ∙ ap option_copied c.in-Some.is)).0

pub returns-in-Some : goal.returns-in-Some
returns-in-Some c = all_told c.args.self.now c.args.seat c.args.text.now c.in-Some.running.now c.allows_to.result (sym c.running.ensures ∙ ap option_copied c.in-Some.is) c.allows_to.ensures

pub returns-in-None : goal.returns-in-None
returns-in-None c = none_told c.args.self.now c.args.seat c.args.text.now (sym c.running.ensures ∙ ap option_copied c.in-None.is)
