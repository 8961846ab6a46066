use Rattle.std.proofs.Common.{◌≡◌, false, drop, Result, is_some}
use Rattle.tup_query.specs.declared.fault.ReadEnd.{ReadEnd}
use Rattle.tup_rule_line.specs.declared.found.Found.{Found}
use Rattle.tup_rule_line.specs.Found.{nothing_found}
use Rattle.tup_rule_line.specs.Input.{from_words}
use Rattle.tup_query.specs.Went.{Asker, asker, Went}
use Rattle.tup_rule_line.proofs.input.from_words.Given as goal

abbrev pub invariant-loop-word : goal.invariant-loop-word
invariant-loop-word g l = record {
  on : is_some (g.E.Env.stopped l.env) ≡ false;
  so_far : (after : Asker) (end : Result Found ReadEnd)
      → Went g.E.Env.tells (asker (g.E.Env.answers l.env) (g.E.Env.stopped l.env) (g.E.Env.asked l.env) l.log) (from_words l.at l.state l.found (drop l.word-index l.words)) after end
      → Went g.E.Env.tells (asker (g.E.Env.answers l.fn.env) (g.E.Env.stopped l.fn.env) (g.E.Env.asked l.fn.env) l.fn.log) (from_words l.at l.state nothing_found l.words) after end;
}
