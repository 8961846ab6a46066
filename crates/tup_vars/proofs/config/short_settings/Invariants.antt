use Rattle.std.proofs.Common.{◌≡◌, length, min}
use Rattle.std.specs.Str.Lines.{lines as cut_lines}
use Rattle.tup_vars.proofs.Settings.{So}
use Rattle.tup_vars.proofs.config.short_settings.Given as goal

abbrev pub invariant-loop-line : goal.invariant-loop-line
invariant-loop-line l =
    let place = length l.yielded in
    (l.number ≡ min place 4294967295) × So (cut_lines l.text) l.table place
