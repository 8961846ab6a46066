use Rattle.std.proofs.Common.{◌≡◌, false, List, drop, Result, is_some}
use Rattle.tup_path.specs.Name.{Names}
use Rattle.tup_query.specs.declared.fault.ReadEnd.{ReadEnd}
use Rattle.tup_rule_line.specs.Output.{from_outputs}
use Rattle.tup_query.specs.Went.{Asker, asker, Went}
use Rattle.tup_rule_line.proofs.output.from_outputs.Given as goal

abbrev pub invariant-loop-word : goal.invariant-loop-word
invariant-loop-word g l = record {
  on : is_some (g.E.Env.stopped l.env) ≡ false;
  so_far : (after : Asker) (end : Result (List Names) ReadEnd)
      → Went g.E.Env.tells (asker (g.E.Env.answers l.env) (g.E.Env.stopped l.env) (g.E.Env.asked l.env) l.log) (from_outputs l.at l.parts l.drafts l.outputs (drop l.word-index l.words)) after end
      → Went g.E.Env.tells (asker (g.E.Env.answers l.fn.env) (g.E.Env.stopped l.fn.env) (g.E.Env.asked l.fn.env) l.fn.log) (from_outputs l.at l.parts l.drafts l.fn.before l.words) after end;
}
