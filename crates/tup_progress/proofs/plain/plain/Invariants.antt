use Rattle.std.proofs.Common.{◌≡◌, string_bytes, map}
use Rattle.std.specs.Prelude.{encode_utf8_all}
use Rattle.tup_progress.specs.Plain.{plain_char}
use Rattle.tup_progress.proofs.plain.plain.Given as goal

abbrev pub invariant-loop-c : goal.invariant-loop-c
invariant-loop-c l = string_bytes l.plain ≡ encode_utf8_all (map plain_char l.yielded)
