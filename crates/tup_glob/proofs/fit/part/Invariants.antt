use Rattle.std.proofs.Common.{◌≡◌, drop}
use denote.Text.{Utf8}
use denote.Shadow.{shadow}
use Rattle.std.specs.Str.{chars}
use Rattle.tup_glob.specs.Part.{part_of}
use Rattle.tup_glob.proofs.fit.part.Given as goal

-- so far each symbol stands for itself
abbrev pub invariant-loop-index : goal.invariant-loop-index
invariant-loop-index l = shadow (Utf8 l.from) × (part_of l.symbols (chars l.name) ≡ part_of (drop l.index l.symbols) (chars l.from))
