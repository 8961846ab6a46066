use Rattle.std.proofs.Common.{◌≡◌, false, length, IsTrue, IsUtf8, string_bytes}
use Rattle.tup_vars.specs.Segments.{segments}
use Rattle.tup_vars.specs.Expand.{scope, with_segments, expansion}
use Rattle.tup_vars.proofs.vars.Vars.expand.Given as goal

abbrev pub invariant-parts : goal.invariant-parts
invariant-parts g l = record {
  text : IsUtf8 l.rest;
  running : g.C.Lookup.stopped l.config ≡ false;
  same : IsTrue g.C.Lookup.tells → g.C.Lookup.answers l.config ≡ g.C.Lookup.answers l.fn.config;
  so_far : IsTrue g.C.Lookup.tells → let names = scope l.fn.self l.fn.cwd (g.C.Lookup.answers l.fn.config) in
      expansion names l.fn.text ≡ with_segments names (string_bytes l.expanded) (segments l.rest);
}

abbrev pub decreases-parts : goal.decreases-parts
decreases-parts g l = length l.rest
