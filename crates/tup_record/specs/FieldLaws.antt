-- The formats of what only records have are exact.
use Rattle.std.proofs.Common.{◌++◌, Ok, refl}
use Rattle.tup_field.specs.Format.{IsExact}
use Rattle.tup_field.specs.Parts.{empty, ◌&◌, list, no_mark, arm, option}
use Rattle.tup_field.specs.PartsLaws.{empty-exact, pair-exact, as_if-exact, list-exact, option-exact, AreArms, no_arms, with_arm, marked_found, marked_stands}
use Rattle.tup_field.specs.Steps.{Again, then_reads}
use Rattle.tup_field.specs.Values.{path, stamp}
use Rattle.tup_field.specs.ValuesLaws.{path-exact, stamp-exact}
use Rattle.tup_record.specs.declared.owned.OwnedState.TheVariants.{Never, Unsure, Written}
use Rattle.tup_record.specs.Fields.{run, StateFits, state_spelling, state}

pub run-exact : IsExact run
run-exact =
    as_if-exact _ _ _ (λ x. refl) (λ r. refl)
    (pair-exact (list (path & option stamp)) (list (path & stamp))
    (list-exact (path & option stamp) (pair-exact path (option stamp) path-exact (option-exact stamp stamp-exact)))
    (list-exact (path & stamp) (pair-exact path stamp path-exact stamp-exact)))

state_arms : AreArms StateFits state_spelling (arm 0 empty (λ _. Never) (arm 1 empty (λ _. Unsure) (arm 2 stamp (λ s. Written s) no_mark)))
state_arms =
    with_arm StateFits state_spelling 0 empty (λ _. Never) (arm 1 empty (λ _. Unsure) (arm 2 stamp (λ s. Written s) no_mark)) empty-exact (λ a fits. tt) (λ a. refl)
    (with_arm StateFits state_spelling 1 empty (λ _. Unsure) (arm 2 stamp (λ s. Written s) no_mark) empty-exact (λ a fits. tt) (λ a. refl)
    (with_arm StateFits state_spelling 2 stamp (λ s. Written s) no_mark stamp-exact (λ s fits. fits) (λ s. refl) (no_arms StateFits state_spelling)))

state_again : Again StateFits state_spelling state.reading
state_again Never rest fits = refl
state_again Unsure rest fits = refl
state_again (Written s) rest fits = then_reads stamp.reading (λ s last. Ok (Written s, last)) (stamp.spelling s ++ rest) s rest (stamp-exact.again s rest fits)

pub state-exact : IsExact state
state-exact = record {
  found = marked_found StateFits state_spelling _ state_arms;
  again = state_again;
  stands = marked_stands StateFits state_spelling _ state_arms;
}
