-- A record that is refused is long; one that has a spelling isn't refused.
use Rattle.std.proofs.Common.{◌≡◌, ℕ, ◌+◌, ◌^◌, ◌<◌, ◌≤◌, length, length-append, inl, inr, arith}
use Rattle.std.proofs.lemmas.Bool.{cases_lt}
use Rattle.tup_field.proofs.Fitting.{KeepsFitting, pairs_fitting, lists_fitting, options_fitting, numbers_fitting, stamps_fitting, paths_fitting, rules_fitting, readings_fitting}
use Rattle.tup_field.proofs.Short.{KeepsShort, pairs_short, pairs_filled, lists_short, options_short, numbers_short, stamps_short, paths_short, paths_filled, rules_short, readings_short}
use Rattle.tup_field.specs.Parts.{number, ◌&◌, list, option}
use Rattle.tup_field.specs.Rules.{rule}
use Rattle.tup_field.specs.Values.{path, stamp}
use Rattle.tup_record.specs.Fields.{run, state}
use Rattle.tup_record.specs.Spelling.{value_of, Fits, ValueWritable, IsWritable, IsLong}
use Rattle.tup_record.specs.declared.owned.OwnedState.{OwnedState}
use Rattle.tup_record.specs.declared.record.Record.{Record}
use Rattle.tup_record.specs.declared.record.Record.TheVariants.{Seen, Reading, Rule, Run, Owned, Create, Modify}
use Rattle.tup_record.specs.declared.run.RunRecord.{RunRecord}

runs_short : KeepsShort run
runs_short r =
    pairs_short (list (path & option stamp)) (list (path & stamp))
    (lists_short (path & option stamp) (pairs_filled path (option stamp) paths_filled) (pairs_short path (option stamp) paths_short (options_short stamp stamps_short)))
    (lists_short (path & stamp) (pairs_filled path stamp paths_filled) (pairs_short path stamp paths_short stamps_short)) (r.asks, r.writes)

states_short : KeepsShort state
states_short s short = tt

value_short : (r : Record) → length (value_of r) < 2 ^ 32 → ValueWritable r
value_short (Seen p s) short = tt
value_short (Reading dir r) short = readings_short r short
value_short (Rule n place r) short = pairs_short number rule numbers_short rules_short (place, r) short
value_short (Run n r) short = runs_short r short
value_short (Owned p maker s) short = pairs_short (option number) state (options_short number numbers_short) states_short (maker, s) short
value_short (Create dir) short = tt
value_short (Modify n) short = tt

pub short_is_writable : (r : Record) → length (value_of r) < 2 ^ 32 → IsWritable r
short_is_writable (Seen p s) short = (tt, tt)
short_is_writable (Reading dir r) short = (tt, value_short (Reading dir r) short)
short_is_writable (Rule n place r) short = (tt, value_short (Rule n place r) short)
short_is_writable (Run n r) short = (tt, value_short (Run n r) short)
short_is_writable (Owned p maker s) short = (tt, value_short (Owned p maker s) short)
short_is_writable (Create dir) short = (tt, tt)
short_is_writable (Modify n) short = (tt, tt)

-- a record that is refused is long
pub refused_is_long : (r : Record) → ¬ IsWritable r → IsLong r
refused_is_long r refused =
    elim (cases_lt (length (value_of r)) (2 ^ 32)) [
      | inl short ↦ absurd (refused (short_is_writable r short))
      | inr long ↦ long
    ]

-- ---- what has a spelling
runs_fitting : KeepsFitting run
runs_fitting r =
    pairs_fitting (list (path & option stamp)) (list (path & stamp)) (lists_fitting (path & option stamp) (pairs_fitting path (option stamp) paths_fitting (options_fitting stamp stamps_fitting)))
    (lists_fitting (path & stamp) (pairs_fitting path stamp paths_fitting stamps_fitting)) (r.asks, r.writes)

states_fitting : KeepsFitting state
states_fitting s fits = tt

-- a record that has a spelling isn't refused
pub fitting_is_writable : (r : Record) → Fits r → IsWritable r
fitting_is_writable (Seen p s) fits = (tt, tt)
fitting_is_writable (Reading dir r) fits = (tt, readings_fitting r fits.1)
fitting_is_writable (Rule n place r) fits = (tt, pairs_fitting number rule numbers_fitting rules_fitting (place, r) fits.1)
fitting_is_writable (Run n r) fits = (tt, runs_fitting r fits.1)
fitting_is_writable (Owned p maker s) fits = (tt, pairs_fitting (option number) state (options_fitting number numbers_fitting) states_fitting (maker, s) fits.1)
fitting_is_writable (Create dir) fits = (tt, tt)
fitting_is_writable (Modify n) fits = (tt, tt)
