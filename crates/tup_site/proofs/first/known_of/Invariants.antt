use Rattle.std.proofs.Common.{take}
use Rattle.tup_site.specs.History.{contents_of}
use Rattle.tup_site.specs.Known.{IsKnown}
use Rattle.tup_site.specs.Held.{IsHeld}
use Rattle.tup_site.proofs.first.known_of.Given as goal

abbrev pub invariant-loop-content : goal.invariant-loop-content
invariant-loop-content l = record {
  held : IsHeld l.known.contents.entries (contents_of (take l.content-index l.list));
  known : IsKnown (contents_of (take l.content-index l.list));
}
