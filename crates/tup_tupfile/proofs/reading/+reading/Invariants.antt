use Rattle.std.proofs.Common.{◌≡◌, ◌*◌, ◌+◌, false, drop, Result, is_some}
use Rattle.tup_query.specs.declared.fault.ReadEnd.{ReadEnd}
use Rattle.tup_rule_line.specs.declared.state.State.{State}
use Rattle.tup_tupfile.specs.Reading.{with_lines, with_room, opener_of, ruled_below, ruled_down}
use Rattle.tup_query.specs.Went.{Asker, asker, Went}
use Rattle.tup_tupfile.proofs.reading.+reading.Given as goal

abbrev pub decreases-with_file : goal.decreases-with_file
decreases-with_file g l = l.room * 8 + 7

abbrev pub decreases-with_line : goal.decreases-with_line
decreases-with_line g l = l.room * 8 + 6

abbrev pub decreases-plain_line : goal.decreases-plain_line
decreases-plain_line g l = l.room * 8 + 5

abbrev pub decreases-stated : goal.decreases-stated
decreases-stated g l = l.room * 8 + 4

abbrev pub decreases-included : goal.decreases-included
decreases-included g l = l.room * 8 + 3

abbrev pub decreases-ruled_down : goal.decreases-ruled_down
decreases-ruled_down g l = l.room * 8 + 3

abbrev pub decreases-ruled_by : goal.decreases-ruled_by
decreases-ruled_by g l = l.room * 8 + 2

abbrev pub decreases-opened : goal.decreases-opened
decreases-opened g l = l.room * 8 + 1

abbrev pub invariant-with_file-loop-line : goal.invariant-with_file-loop-line
invariant-with_file-loop-line g l = record {
  on : is_some (g.E.Env.stopped l.env) ≡ false;
  so_far : (after : Asker) (end : Result State ReadEnd)
      → Went g.E.Env.tells (asker (g.E.Env.answers l.env) (g.E.Env.stopped l.env) (g.E.Env.asked l.env) l.log) (with_lines (opener_of l.room l.dir) l.dir l.file l.along (drop l.line-index l.line-items)) after end
      → Went g.E.Env.tells (asker (g.E.Env.answers l.fn.env) (g.E.Env.stopped l.fn.env) (g.E.Env.asked l.fn.env) l.fn.log) (with_room l.room l.dir l.file l.fn.state l.content) after end;
}

abbrev pub invariant-ruled_down-loop-name : goal.invariant-ruled_down-loop-name
invariant-ruled_down-loop-name g l = record {
  on : is_some (g.E.Env.stopped l.env) ≡ false;
  so_far : (after : Asker) (end : Result State ReadEnd)
      → Went g.E.Env.tells (asker (g.E.Env.answers l.env) (g.E.Env.stopped l.env) (g.E.Env.asked l.env) l.log) (ruled_below (opener_of l.room l.at.dir) l.at l.reached l.folder (drop l.name-index l.name-items)) after end
      → Went g.E.Env.tells (asker (g.E.Env.answers l.fn.env) (g.E.Env.stopped l.fn.env) (g.E.Env.asked l.fn.env) l.fn.log) (ruled_down (opener_of l.room l.at.dir) l.at l.fn.state) after end;
}
