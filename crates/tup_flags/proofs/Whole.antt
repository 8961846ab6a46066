-- What the laws say of whole texts.
use Rattle.std.proofs.Common.{◌≡◌, ◌≢◌, ◌⊎◌, inl, inr, ℕ, ◌-◌, ◌<◌, ◌≤◌, Bool, true, false, if◌then◌else◌, List, [], ◌∷◌, ◌++◌, length, map, All, Option, Some, None, Result, Ok, Err, IfOk, option_and_then, nat_lt, bytes_eq, refl, ap, sym, ◌∙◌, append-nil, arith}
use Rattle.std.proofs.lemmas.List.{map-append}
use Rattle.std.proofs.lemmas.List.Quantifiers.{position-Some}
use Rattle.tup_rule.specs.declared.draft.GroupRef.{GroupRef}
use Rattle.tup_rule.specs.declared.draft.Piece.{Piece}
use Rattle.tup_rule.specs.declared.draft.Piece.TheVariants.{Text, Group}
use Rattle.tup_flags.specs.declared.fault.FlagFault.{FlagFault}
use Rattle.tup_flags.specs.declared.fault.FlagFault.TheVariants.{Memory, UnknownFlag, FlagNotHere}
use Rattle.tup_flags.specs.declared.parts.FlagParts.{FlagParts}
use Rattle.tup_flags.specs.declared.parts.Place.{Place}
use Rattle.tup_flags.specs.declared.parts.Place.TheVariants as place
use Rattle.tup_flags.specs.Part.{Part, Byte, Flagged, Named, Unknown, State, Between, Behind, Within, parts_from, parts}
use Rattle.tup_flags.specs.Flag.{in_command, stands, meaning, first_named, small, place_of, group_at, value}
use Rattle.tup_flags.specs.Pieces.{text_limit, total, onto, joined, granted, refusal, outcome}
use Rattle.tup_flags.specs.Laws.{IsLeast, IsTextAlone, StandIn, InTurn}
use Rattle.tup_flags.specs.Expansion.{values, expand}
use Rattle.tup_flags.proofs.Joined.{goes, alone-onto, least-joined, total-joined, both-go, second-stops, first-stops}
use Rattle.tup_flags.proofs.Onward.{Values, onward-end}
use Rattle.tup_flags.proofs.Spelled.{read, state_behind, read-on}
use Rattle.tup_flags.proofs.Turns.{front-in}

-- what holds of an answer that isn't refused
pub carried : (P : List Piece → Type 0) (result whole : Result (List Piece) FlagFault) → (result ≡ Err Memory) ⊎ (result ≡ whole) → ((pieces : List Piece) → whole ≡ Ok pieces → P pieces) → IfOk result P
carried P (Ok pieces) whole (inl e) holds = absurd (cc)
carried P (Ok pieces) whole (inr e) holds = holds pieces (sym e)
carried P (Err fault) whole e holds = tt

pub is-least : (given : FlagParts) (text : List ℕ) (pieces : List Piece) → expand given text ≡ Ok pieces → IsLeast pieces
is-least given text pieces e =
    let is = (goes (values given text) pieces e).is in rw is (least-joined (granted (values given text)))

pub is-short : (given : FlagParts) (text : List ℕ) (pieces : List Piece) → expand given text ≡ Ok pieces → total pieces ≤ text_limit
is-short given text pieces e =
    let g = goes (values given text) pieces e in
    let same : total pieces ≡ total (granted (values given text)) = ap total g.is ∙ total-joined (granted (values given text)) in
    omega (arith, same, g.fits)

-- no group is granted elsewhere than in the command
alone-granted : (given : FlagParts) → in_command given.place ≡ false → (all : List Part) → IsTextAlone (joined (granted (map (value given) all)))
alone-granted given elsewhere [] = tt
alone-granted given elsewhere (Byte b ∷ more) = alone-onto (b ∷ []) _ (alone-granted given elsewhere more)
alone-granted given elsewhere (Flagged flag ∷ more) =
    elim (stands given flag) as (λ t. IsTextAlone (joined (granted ((if t then Ok (Text (meaning given flag)) else Err FlagNotHere) ∷ map (value given) more)))) [
      | true ↦ alone-onto (meaning given flag) _ (alone-granted given elsewhere more)
      | false ↦ tt
    ]
alone-granted given elsewhere (Named name ∷ more) = rw elsewhere tt
alone-granted given elsewhere (Unknown bytes ∷ more) = tt

standing-onto : (count : ℕ) (text : List ℕ) (pieces : List Piece) → StandIn count pieces → StandIn count (onto text pieces)
standing-onto count [] pieces stand = stand
standing-onto count (b ∷ text) [] stand = stand
standing-onto count (b ∷ text) (Text next ∷ more) stand = stand
standing-onto count (b ∷ text) (Group at ∷ more) stand = stand

small-is : (n at : ℕ) → small n ≡ Some at → n ≡ at
small-is n at e = by_test (nat_lt n 4294967296) e
  where
    by_test : (fits : Bool) → (if fits then Some n else None) ≡ Some at → n ≡ at
    by_test true e = cc
    by_test false e = absurd (cc)

place-within : (given : FlagParts) (name : List ℕ) (at : ℕ) → place_of given name ≡ Some at → at < length given.groups
place-within given name at e = by_place (in_command given.place) (first_named given.groups name) refl e
  where
    by_place : (here : Bool) (found : Option ℕ) → first_named given.groups name ≡ found → (if here then option_and_then small found else None) ≡ Some at → at < length given.groups
    by_place true (Some n) f is =
        let nobody : GroupRef = record { dir = []; name = [] } in
        let there = position-Some (λ (group : GroupRef). bytes_eq group.name name) given.groups n nobody f in
        omega (arith, there.0, small-is n at is)
    by_place true None f is = absurd (cc)
    by_place false found f is = absurd (cc)

standing-granted : (given : FlagParts) (all : List Part) → StandIn (length given.groups) (joined (granted (map (value given) all)))
standing-granted given [] = tt
standing-granted given (Byte b ∷ more) = standing-onto (length given.groups) (b ∷ []) (joined (granted (map (value given) more))) (standing-granted given more)
standing-granted given (Flagged flag ∷ more) =
    elim (stands given flag) as (λ t. StandIn (length given.groups) (joined (granted ((if t then Ok (Text (meaning given flag)) else Err FlagNotHere) ∷ map (value given) more)))) [
      | true ↦ standing-onto (length given.groups) (meaning given flag) (joined (granted (map (value given) more))) (standing-granted given more)
      | false ↦ tt
    ]
standing-granted given (Named name ∷ more) =
    (elim (place_of given name) as (λ o. place_of given name ≡ o → StandIn (length given.groups) (joined (granted (group_at o ∷ map (value given) more)))) [
      | Some at ↦ λ e. (place-within given name at e, standing-granted given more)
      | None ↦ λ e. tt
    ]) refl
standing-granted given (Unknown bytes ∷ more) = tt

pub are-within : (given : FlagParts) (text : List ℕ) (pieces : List Piece) → expand given text ≡ Ok pieces → StandIn (length given.groups) pieces
are-within given text pieces e =
    let is = (goes (values given text) pieces e).is in rw is (standing-granted given (parts text))

not-command : (at : Place) → at ≢ place.Command → in_command at ≡ false
not-command place.Inputs other = refl
not-command place.Command other = absurd (other refl)
not-command place.Outputs other = refl
not-command place.Extra other = refl

pub is-alone : (given : FlagParts) (text : List ℕ) → given.place ≢ place.Command → (pieces : List Piece) → expand given text ≡ Ok pieces → IsTextAlone pieces
is-alone given text other pieces e =
    let is = (goes (values given text) pieces e).is in rw is (alone-granted given (not-command given.place other) (parts text))

-- a text without a percent sign
pub is-plain : (given : FlagParts) (text : List ℕ) → All (λ byte. byte ≢ 37) text → length text ≤ text_limit → expand given text ≡ Ok (onto text [])
is-plain given text plain short =
    front-in given [] [] [] text text [] text text_limit _ (sym (append-nil text)) (λ i l. plain i 0 l) refl refl (omega arith)
    ∙ onward-end [] text (text_limit - length text)

-- ---- in turn

-- where the text may end between two parts, or not
end-values : (given : FlagParts) (state : State) → granted (map (value given) (parts_from state [])) ≡ []
end-values given Between = refl
end-values given Behind = refl
end-values given (Within name) = refl

end-refusal : (given : FlagParts) (state : State) (other : FlagFault) → refusal (map (value given) (parts_from state [])) ≡ Some other → other ≡ UnknownFlag
end-refusal given Between other e = absurd (cc)
end-refusal given Behind other e = cc
end-refusal given (Within name) other e = cc

front-values : (given : FlagParts) (front back : List ℕ) → values given (front ++ back) ≡ map (value given) (read Between front) ++ map (value given) (parts_from (state_behind Between front) back)
front-values given front back =
    ap (map (value given)) (read-on Between front back) ∙ map-append (value given) (read Between front) (parts_from (state_behind Between front) back)

whole-values : (given : FlagParts) (front : List ℕ) → values given front ≡ map (value given) (read Between front) ++ map (value given) (parts_from (state_behind Between front) [])
whole-values given front = ap (values given) (sym (append-nil front)) ∙ front-values given front []

ends-none : (front back : Values) → refusal (front ++ back) ≡ None → refusal back ≡ None
ends-none [] back e = e
ends-none (Ok piece ∷ front) back e = ends-none front back e
ends-none (Err fault ∷ front) back e = absurd (cc)

-- a text that expands ends between two parts
ends-whole : (given : FlagParts) (front : List ℕ) (start : List Piece) → expand given front ≡ Ok start → state_behind Between front ≡ Between
ends-whole given front start e = by_state (state_behind Between front) refl
  where
    v : Values
    v = map (value given) (read Between front)

    none : refusal (map (value given) (parts_from (state_behind Between front) [])) ≡ None
    none = ends-none v (map (value given) (parts_from (state_behind Between front) [])) (ap refusal (sym (whole-values given front)) ∙ (goes (values given front) start e).refused)

    by_state : (state : State) → state_behind Between front ≡ state → state_behind Between front ≡ Between
    by_state Between s = s
    by_state Behind s = absurd (let some : Some UnknownFlag ≡ None = ap (λ st. refusal (map (value given) (parts_from st []))) (sym s) ∙ none in cc)
    by_state (Within name) s = absurd (let some : Some UnknownFlag ≡ None = ap (λ st. refusal (map (value given) (parts_from st []))) (sym s) ∙ none in cc)

both-values : (given : FlagParts) (front back : List ℕ) → state_behind Between front ≡ Between → values given (front ++ back) ≡ values given front ++ values given back
both-values given front back s =
    let v = map (value given) (read Between front) in
    let alone : values given front ≡ v = whole-values given front ∙ ap (λ st. v ++ map (value given) (parts_from st [])) s ∙ append-nil v in
    front-values given front back ∙ ap (λ st. v ++ map (value given) (parts_from st back)) s ∙ ap (λ x. x ++ values given back) (sym alone)

one_of : (x y a b : Result (List Piece) FlagFault) → x ≡ y → (y ≡ a) ⊎ (y ≡ b) → (x ≡ a) ⊎ (x ≡ b)
one_of x y a b e (inl first) = inl (e ∙ first)
one_of x y a b e (inr second) = inr (e ∙ second)

pub in-turn : (given : FlagParts) (front back : List ℕ) → InTurn given front back
in-turn given front back = record {
  expands = λ start rest e d. ap outcome (both-values given front back (ends-whole given front start e)) ∙ both-go (values given front) (values given back) start rest e d;
  refused = λ start fault e d. one_of _ _ _ _ (ap outcome (both-values given front back (ends-whole given front start e))) (second-stops (values given front) (values given back) start fault e d);
  stopped = λ fault known e.
      let state = state_behind Between front in
      ap outcome (front-values given front back)
      ∙ first-stops (map (value given) (read Between front)) (map (value given) (parts_from state [])) (map (value given) (parts_from state back)) fault
      (end-values given state) (end-refusal given state) known (ap outcome (sym (whole-values given front)) ∙ e);
}
