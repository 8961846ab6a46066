use Rattle.std.proofs.Common.{◌≡◌, length}
use Rattle.std.specs.String.{string_bytes}
use Rattle.std.specs.Str.Lines.{lines as cut_lines}
use Rattle.tup_lex.specs.Line.{line_number}
use Rattle.tup_lex.proofs.Joins.{So}
use Rattle.tup_lex.proofs.line.said_lines.Given as goal

abbrev pub invariant-loop-line : goal.invariant-loop-line
invariant-loop-line l =
    let place = length l.yielded in
    (l.number ≡ line_number place) × So (cut_lines l.text) l.kept l.first (string_bytes l.begun) place
