-- Where the first call of a process stands.
use Rattle.std.proofs.Common.{◌≡◌, ℕ, ◌<◌, ◌≤◌, Bool, true, false, cond, ltb, List, length, get_or, Option, Some, None, refl, ap, sym, subst, ◌∙◌}
use Rattle.std.proofs.lemmas.Bool.{ltb-true, ltb-false}
use Rattle.std.proofs.lemmas.List.Folds.{find_at}
use Rattle.std.proofs.lemmas.Option.{slice_get_read, slice_get_past}
use Rattle.std.specs.List.{find, position, position_or_len, remove}
use Rattle.std.specs.Option.{MatchOption}
use Rattle.tup_trace.specs.Trace.{is_of, StandsAt}
use Rattle.tup_trace.specs.declared.call.Call.{Call}

past : {X : Type 0} (p : X → Bool) (xs : List X) → position p xs ≡ None → length xs ≤ position_or_len p xs
past p xs none = (elim (ltb (position_or_len p xs) (length xs)) as (λ t. ltb (position_or_len p xs) (length xs) ≡ t → cond t (Some (position_or_len p xs)) None ≡ None → length xs ≤ position_or_len p xs) [
  | true ↦ λ t n. absurd (cc)
  | false ↦ λ t n. ltb-false (position_or_len p xs) (length xs) t
]) refl none

here : {X : Type 0} (p : X → Bool) (xs : List X) (place : ℕ) → position p xs ≡ Some place → (position_or_len p xs ≡ place) × (position_or_len p xs < length xs)
here p xs place some = (elim (ltb (position_or_len p xs) (length xs)) as (λ t. ltb (position_or_len p xs) (length xs) ≡ t → cond t (Some (position_or_len p xs)) None ≡ Some place → (position_or_len p xs ≡ place) × (position_or_len p xs < length xs)) [
  | true ↦ λ t n. let same : position_or_len p xs ≡ place = cc in (same, ltb-true (position_or_len p xs) (length xs) t)
  | false ↦ λ t n. absurd (cc)
]) refl some

stands : (process : List ℕ) (calls : List Call) (place : ℕ) → position (is_of process) calls ≡ Some place → StandsAt process calls place
stands process calls place some =
    let at = here (is_of process) calls place some in
    record {
      within = subst (λ k. k < length calls) at.0 at.1;
      others = ap (remove calls) at.0;
      found = λ call e. find_at (is_of process) calls
          ∙ slice_get_read calls (length calls) (position_or_len (is_of process) calls) call refl at.1 (subst (λ k. call ≡ get_or calls k call) (sym at.0) e);
    }

pub placed : (process : List ℕ) (calls : List Call) (found : Option ℕ) → found ≡ position (is_of process) calls → MatchOption found (find (is_of process) calls ≡ None) (StandsAt process calls)
placed process calls None e = find_at (is_of process) calls ∙ slice_get_past calls (position_or_len (is_of process) calls) (past (is_of process) calls (sym e))
placed process calls (Some place) e = stands process calls place (sym e)
