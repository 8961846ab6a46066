-- The formats of what only records have (own).
use Rattle.std.specs.Prelude.{ℕ, List, [], ◌∷◌}
use Rattle.tup_field.specs.Format.{Format}
use Rattle.tup_field.specs.Parts.{empty, ◌&◌, as_if, list, no_mark, arm, marked_at, option}
use Rattle.tup_field.specs.Values.{path, stamp}
use Rattle.tup_record.specs.declared.run.RunRecord.{RunRecord}
use Rattle.tup_record.specs.declared.owned.OwnedState.{OwnedState}
use Rattle.tup_record.specs.declared.owned.OwnedState.TheVariants.{Never, Unsure, Written}

-- what a run asked for, then what it wrote
abbrev pub run : Format RunRecord
run = as_if (λ x. record { asks = x.0; writes = x.1 }) (λ r. (r.asks, r.writes)) (list (path & option stamp) & list (path & stamp))

-- the state of an owned path: the mark 0 or 1 alone, or the mark 2 and a stamp
abbrev pub StateFits : OwnedState → Type 0
StateFits Never = Unit {0}
StateFits Unsure = Unit {0}
StateFits (Written s) = stamp.Fits s

-- its spelling
abbrev pub state_spelling : OwnedState → List ℕ
state_spelling Never = 0 ∷ []
state_spelling Unsure = 1 ∷ []
state_spelling (Written s) = 2 ∷ stamp.spelling s

-- its format
abbrev pub state : Format OwnedState
state = record {
  Fits = StateFits;
  Writable = λ _. Unit {0};
  spelling = state_spelling;
  reading = marked_at (arm 0 empty (λ _. Never) (arm 1 empty (λ _. Unsure) (arm 2 stamp (λ s. Written s) no_mark)));
}
