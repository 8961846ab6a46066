use Rattle.std.proofs.Common.{◌≡◌, false, [], drop, Result, is_some}
use Rattle.tup_query.specs.declared.fault.ReadEnd.{ReadEnd}
use Rattle.tup_query.specs.Ask.{Settings, settings_of}
use Rattle.tup_query.specs.Went.{Asker, asker, Went}
use Rattle.tup_query.proofs.settings.settings_of.Given as goal

abbrev pub invariant-loop-name : goal.invariant-loop-name
invariant-loop-name g l = record {
  on : is_some (g.E.Env.stopped l.env) ≡ false;
  so_far : (after : Asker) (end : Result Settings ReadEnd)
      → Went g.E.Env.tells (asker (g.E.Env.answers l.env) (g.E.Env.stopped l.env) (g.E.Env.asked l.env) l.log) (settings_of l.values (drop l.name-index l.names)) after end
      → Went g.E.Env.tells (asker (g.E.Env.answers l.fn.env) (g.E.Env.stopped l.fn.env) (g.E.Env.asked l.fn.env) l.fn.log) (settings_of [] l.names) after end;
}
