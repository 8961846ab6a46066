-- What is known after a place was noted.
use Rattle.std.proofs.Common.{◌≡◌, ℕ, Bool, true, false, cond, List, Option, Some, Result, Ok, Err, String, Global, string_bytes, refl, ap, subst, sym, ◌∙◌}
use Rattle.std.specs.Prelude.{OnOk, OnErr}
use Rattle.std.specs.HashMap.{IsUnique, get_by_text, Updates}
use Rattle.std.specs.String.{string_eq, string_eq_equiv}
use Rattle.std.specs.Str.{bytes_eq}
use Rattle.std.proofs.lemmas.Map.Text.{hash_map_updates_text}
use Rattle.std.proofs.lemmas.Slice.Eq.{bytes_eq-Decides}
use Rattle.indexmap.specs.IndexMap.{with_value_at}
use Rattle.indexmap.proofs.CallerLemmas.{updates-with_value_at}
use Rattle.tup_disk.specs.declared.failure.Refused.{Refused}
use Rattle.tup_fs.specs.Answers.{IsNext, Learns, StayKnown, known_at, known_from}
use Rattle.tup_fs.specs.declared.answers.Answers.{Answers}
use Rattle.tup_fs.specs.declared.answers.Known.{Known}
use Rattle.tup_fs.specs.declared.answers.Known.TheVariants.{Unknown}

from_either : (is_listed here : Bool) (known : Known) (was : Option Known) → known_from is_listed (cond here (Some known) was) ≡ cond here known (known_from is_listed was)
from_either is_listed true known was = refl
from_either is_listed false known was = refl

-- a note is known at its place, and changes nothing elsewhere
pub noted : (old new : Answers) (place : String Global) (known : Known) → new.is_listed ≡ old.is_listed
    → Updates string_eq old.places new.places place (Some known) → Learns old new (string_bytes place) known
noted old new place known listed updates other =
    ap (λ is_listed. known_from is_listed (get_by_text new.places other)) listed
    ∙ ap (known_from old.is_listed) (hash_map_updates_text (string_bytes place) old.places new.places (Some known) updates other)
    ∙ from_either old.is_listed (bytes_eq (string_bytes place) other) known (get_by_text old.places other)

-- and so is one that is written at the next place
pub noted_next : (old new : Answers) (place : List ℕ) (known : Known) → new.is_listed ≡ old.is_listed → IsUnique string_eq old.places
    → new.places ≡ with_value_at old.places old.next known → IsNext old place → Learns old new place known
noted_next old new place known listed unique written (next, was, here, is) =
    subst (λ p. Learns old new p known) is
    (noted old new next known listed
    (subst (λ places. Updates string_eq old.places places next (Some known)) (sym written)
    (updates-with_value_at old.places old.next known string_eq_equiv unique next was here)))

-- where something is learned of a place of which nothing was known, all that was known stays
kept_known : (old new : Answers) (place : List ℕ) (known : Known) → known_at old place ≡ Unknown → Learns old new place known → StayKnown old new
kept_known old new place known none learns other some = learns other ∙ by (bytes_eq place other) refl
  where
    by : (same : Bool) → bytes_eq place other ≡ same → cond same known (known_at old other) ≡ known_at old other
    by true same = absurd (some (subst (λ (p : List ℕ). known_at old p ≡ Unknown) ((bytes_eq-Decides place other).0 same) none))
    by false apart = refl

-- the same of a call that may be refused
pub still_known : (old new : Answers) (place : List ℕ) (known : Known) (result : Result (Unit {0}) Refused) → known_at old place ≡ Unknown → OnOk result (Learns old new place known)
    → OnErr result ((other : List ℕ) → known_at new other ≡ known_at old other) → StayKnown old new
still_known old new place known (Ok done) none learns unchanged = kept_known old new place known none learns
still_known old new place known (Err refused) none learns unchanged = λ other some. unchanged other
