-- How the spelling of a record is read, from the left, the key before the value (own).
use Rattle.std.specs.Prelude.{◌≡◌, ◌≢◌, ℕ, List, [], ◌∷◌, ◌++◌, Result, Ok, Err, ◌==◌, if◌then◌else◌}
use Rattle.tup_path.specs.Gives.{GivesUnless}
use Rattle.tup_field.specs.declared.fault.RecordFault.{RecordFault}
use Rattle.tup_field.specs.declared.fault.RecordFault.TheVariants.{Short, BadKind, Trailing, Memory}
use Rattle.tup_field.specs.Format.{Format, ◌>>=◌}
use Rattle.tup_field.specs.Parts.{number, empty, ◌&◌, option}
use Rattle.tup_field.specs.Values.{path, stamp}
use Rattle.tup_field.specs.Rules.{rule, reading}
use Rattle.tup_record.specs.Fields.{run, state}
use Rattle.tup_record.specs.declared.record.Record.{Record}
use Rattle.tup_record.specs.declared.record.Record.TheVariants.{Seen, Reading, Rule, Run, Owned, Create, Modify}

-- an answer, unless memory ran out
abbrev pub Gives : Result Record RecordFault → Result Record RecordFault → Type 0
Gives result answer = GivesUnless result Memory answer

-- bytes that go on behind a front of theirs
abbrev pub GoesOn : List ℕ → List ℕ → Type 0
GoesOn front bytes = (more : List ℕ) × (more ≢ []) × (bytes ≡ front ++ more)

-- a value that no bytes are left behind
abbrev pub ended : {A : Type 0} → A → List ℕ → Result A RecordFault
ended a [] = Ok a
ended a (b ∷ rest) = Err Trailing

-- what all of the bytes spell
abbrev pub whole : {A : Type 0} → Format A → List ℕ → Result A RecordFault
whole f bytes = do
  a ← f.reading bytes
  ended a.0 a.1

-- what all bytes of a key and all bytes of a value spell
abbrev pub parts : {K V : Type 0} → Format K → Format V → List ℕ → List ℕ → Result (K × V) RecordFault
parts f g key value = do
  k ← whole f key
  v ← whole g value
  Ok (k, v)

-- what the rest of a key and a value spell, by the byte of their kind
abbrev pub Kinds : Type 0
Kinds = ℕ → List ℕ → List ℕ → Result Record RecordFault

-- no byte is known
abbrev pub no_kind : Kinds
no_kind mark key value = Err BadKind

-- behind one byte stand a key and a value of formats; other bytes are looked up further on
abbrev pub kind : {K V : Type 0} → ℕ → Format K → Format V → (K → V → Record) → Kinds → Kinds
kind own f g make others mark key value = if mark == own then (do
  x ← parts f g key value
  Ok (make x.0 x.1)) else others mark key value

-- the seven kinds
abbrev pub kinds : Kinds
kinds =
    kind 1 path stamp (λ p s. Seen p s) (kind 2 path reading (λ dir r. Reading dir r) (kind 3 number (number & rule) (λ n x. Rule n x.0 x.1) (kind 4 number run (λ n r. Run n r)
    (kind 5 path (option number & state) (λ p x. Owned p x.0 x.1) (kind 6 path empty (λ dir nothing. Create dir) (kind 7 number empty (λ n nothing. Modify n) no_kind))))))

-- the record that a key and a value spell, or the first place that doesn't fit
abbrev pub record_at : List ℕ → List ℕ → Result Record RecordFault
record_at [] value = Err Short
record_at (mark ∷ key) value = kinds mark key value
