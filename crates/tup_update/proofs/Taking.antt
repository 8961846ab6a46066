-- Values of rules that are taken for the claims of a history, or for its ends, one after another.
use Rattle.std.proofs.Common.{◌≡◌, ◌≢◌, ◌<◌, ◌+◌, ℕ, false, List, length, take, drop, drop-cons, add-one, get_or, [], ◌∷◌, ◌++◌, map, Option, Some, None, All, refl, sym, ap, subst, append-nil, append_assoc, slice_set, ◌∙◌}
use Rattle.std.specs.Bool.{nat_eq}
use Rattle.std.specs.List.{AllByRecursion, IsDistinct}
use Rattle.std.specs.Option.{IsSome}
use Rattle.std.proofs.Math.Seq.{take-suc}
use Rattle.std.proofs.lemmas.Bool.{eqb-false}
use Rattle.std.proofs.lemmas.List.{map-append}
use Rattle.std.proofs.lemmas.List.Elements.{All-nil, All-cons, All-head, All-tail, All-weaker}
use Rattle.std.proofs.lemmas.Map.Keys.{IsDistinct-head, IsDistinct-tail}
use Rattle.tup_path.specs.Name.{Names}
use Rattle.tup_stamp.specs.declared.Stamp.{Stamp}
use Rattle.tup_access.specs.declared.verdict.Verdict.{Verdict}
use Rattle.tup_core.specs.declared.event.CoreEvent.{CoreEvent}
use Rattle.tup_core.specs.declared.event.CoreEvent.TheVariants.{Claim, Ask, Deny, Finish, Stop}
use Rattle.tup_core.specs.Run.{claims}
use Rattle.tup_board.specs.CameLaws.{claims_both}
use Rattle.tup_update.specs.Ended.{claimed_by, ends, ends_at, ends_from, nothing_claimed, numbers}
use Rattle.tup_update.specs.Names.{HasRoom, value_at}
use Rattle.tup_update.specs.declared.by_rule.ByRule.{ByRule}

-- a value still waits as it did at first
abbrev pub Waits : {V : Type 0} → ByRule V → ByRule V → ℕ → Type 0
Waits first values number = value_at values number ≡ value_at first number

-- values of which those for the first numbers are taken, and those for the others wait
pub record IsTaking {V : Type 0} (first : ByRule V) (done left : List ℕ) (values : ByRule V) : Type 0 where
  pub room : HasRoom values
  pub taken : map Some values.begun.items ≡ map (value_at first) done
  pub waits : All (Waits first values) left
  pub once : IsDistinct nat_eq left
  pub named : All (λ number. IsSome (value_at first number)) left

-- ---- one more is taken
-- the values of other rules still wait
others_wait : {V : Type 0} (first old new : ByRule V) (number : ℕ) → ((other : ℕ) → other ≢ number → value_at new other ≡ value_at old other) → (rest : List ℕ)
    → AllByRecursion (λ other. nat_eq number other ≡ false) rest → All (Waits first old) rest → All (Waits first new) rest
others_wait first old new number others [] apart waits = All-nil (Waits first new)
others_wait first old new number others (other ∷ rest) apart waits =
    All-cons (Waits first new) other rest
    (others other (λ same. eqb-false number other apart.0 (sym same)) ∙ All-head (Waits first old) other rest waits)
    (others_wait first old new number others rest apart.1 (All-tail (Waits first old) other rest waits))

-- what there is is Some
is_there : {V : Type 0} (found : Option V) → IsSome found → (value : V) × (found ≡ Some value)
is_there None some = absurd (cc)
is_there (Some value) some = (value, refl)

module _ {V : Type 0} (first old new : ByRule V) (done left : List ℕ) (number : ℕ) (is : IsTaking first done (number ∷ left) old) where
  pub named_now : IsSome (value_at old number)
  named_now = subst IsSome (sym (All-head (Waits first old) number left is.waits)) (All-head (λ one. IsSome (value_at first one)) number left is.named)

  pub taking_one : HasRoom new → ((value : V) → value_at old number ≡ Some value → new.begun.items ≡ old.begun.items ++ value ∷ [])
      → ((other : ℕ) → other ≢ number → value_at new other ≡ value_at old other) → IsTaking first (done ++ number ∷ []) left new
  taking_one room begun others = record {
    room = room;
    taken = by (is_there (value_at old number) named_now);
    waits = others_wait first old new number others left (IsDistinct-head nat_eq number left is.once) (All-tail (Waits first old) number left is.waits);
    once = IsDistinct-tail nat_eq number left is.once;
    named = All-tail (λ one. IsSome (value_at first one)) number left is.named;
  }
    where
      by : ((value : V) × (value_at old number ≡ Some value)) → map Some new.begun.items ≡ map (value_at first) (done ++ number ∷ [])
      by (value, here) =
          ap (map Some) (begun value here)
          ∙ map-append Some old.begun.items (value ∷ [])
          ∙ ap (λ (values : List (Option V)). values ++ Some value ∷ []) is.taken
          ∙ ap (λ (last : Option V). map (value_at first) done ++ last ∷ []) (sym here ∙ All-head (Waits first old) number left is.waits)
          ∙ sym (map-append (value_at first) done (number ∷ []))

-- ---- the events of a history, one after another
-- what is left of a history begins with its next event
pub next_left : (history : List CoreEvent) (k : ℕ) (event : CoreEvent) → k < length history → event ≡ get_or history k event → drop k history ≡ event ∷ drop (k + 1) history
next_left history k event within is =
    drop-cons history k event within ∙ ap (λ (n : ℕ). get_or history k event ∷ drop n history) (sym (add-one k)) ∙ ap (λ (e : CoreEvent). e ∷ drop (k + 1) history) (sym is)

next_done : (history : List CoreEvent) (k : ℕ) (event : CoreEvent) → k < length history → event ≡ get_or history k event → take (k + 1) history ≡ take k history ++ event ∷ []
next_done history k event within is =
    ap (λ (n : ℕ). take n history) (add-one k) ∙ take-suc history k event within ∙ ap (λ (e : CoreEvent). take k history ++ e ∷ []) (sym is)

-- ---- those of the claims
module _ {V : Type 0} (first old : ByRule V) (history : List CoreEvent) (k : ℕ) (within : k < length history) (is : IsTaking first (claims (take k history)) (claims (drop k history)) old) where
  -- the next event is a claim
  module _ (seat number : ℕ) (claim : Claim seat number ≡ get_or history k (Claim seat number)) where
    claims_next : IsTaking first (claims (take k history)) (number ∷ claims (drop (k + 1) history)) old
    claims_next = subst (λ (left : List CoreEvent). IsTaking first (claims (take k history)) (claims left) old) (next_left history k (Claim seat number) within claim) is

    pub waits_next : IsSome (value_at old number)
    waits_next = named_now first old old (claims (take k history)) (claims (drop (k + 1) history)) number claims_next

    pub taken_next : (new : ByRule V) → HasRoom new → ((value : V) → value_at old number ≡ Some value → new.begun.items ≡ old.begun.items ++ value ∷ [])
        → ((other : ℕ) → other ≢ number → value_at new other ≡ value_at old other) → IsTaking first (claims (take (k + 1) history)) (claims (drop (k + 1) history)) new
    taken_next new room begun others =
        subst (λ (done : List ℕ). IsTaking first done (claims (drop (k + 1) history)) new)
        (sym (ap claims (next_done history k (Claim seat number) within claim) ∙ claims_both (take k history) (Claim seat number ∷ [])))
        (taking_one first old new (claims (take k history)) (claims (drop (k + 1) history)) number claims_next room begun others)

  -- it is none
  pub passed_next : (event : CoreEvent) → event ≡ get_or history k event → ((seat number : ℕ) → event ≢ Claim seat number) → IsTaking first (claims (take (k + 1) history)) (claims (drop (k + 1) history)) old
  passed_next event at none =
      subst (λ (done : List ℕ). IsTaking first done (claims (drop (k + 1) history)) old) (sym (ap claims (next_done history k event within at) ∙ claims_both (take k history) (event ∷ []) ∙ by_done event none))
      (by_left event none (subst (λ (left : List CoreEvent). IsTaking first (claims (take k history)) (claims left) old) (next_left history k event within at) is))
    where
      left : List CoreEvent
      left = drop (k + 1) history

      by_done : (it : CoreEvent) → ((seat number : ℕ) → it ≢ Claim seat number) → claims (take k history) ++ claims (it ∷ []) ≡ claims (take k history)
      by_done (Claim seat number) other = absurd (other seat number refl)
      by_done (Ask seat text answer) other = append-nil (claims (take k history))
      by_done (Deny seat text verdict) other = append-nil (claims (take k history))
      by_done (Finish seat verdict writes) other = append-nil (claims (take k history))
      by_done (Stop seat cause) other = append-nil (claims (take k history))

      by_left : (it : CoreEvent) → ((seat number : ℕ) → it ≢ Claim seat number) → IsTaking first (claims (take k history)) (claims (it ∷ left)) old → IsTaking first (claims (take k history)) (claims left) old
      by_left (Claim seat number) other taking = absurd (other seat number refl)
      by_left (Ask seat text answer) other taking = taking
      by_left (Deny seat text verdict) other taking = taking
      by_left (Finish seat verdict writes) other taking = taking
      by_left (Stop seat cause) other taking = taking

-- ---- those of the ends
-- those of the commands that ended so far are taken
pub record IsTakingEnds {V : Type 0} (first : ByRule V) (history left : List CoreEvent) (claimed : List (Option ℕ)) (values : ByRule V) : Type 0 where
  pub done : List ℕ
  pub whole : done ++ numbers (ends_from claimed left) ≡ numbers (ends history)
  pub taking : IsTaking first done (numbers (ends_from claimed left)) values

pub no_ends : {V : Type 0} (first : ByRule V) (history : List CoreEvent) → HasRoom first → first.begun.items ≡ [] → IsDistinct nat_eq (numbers (ends history)) → All (λ number. IsSome (value_at first number)) (numbers (ends history))
    → IsTakingEnds first history history nothing_claimed first
no_ends first history room none once named = record {
  done = [];
  whole = refl;
  taking = record { room = room; taken = ap (map Some) none; waits = All-weaker (λ number. IsSome (value_at first number)) (Waits first first) (λ number some. refl) (numbers (ends history)) named; once = once; named = named };
}

module _ {V : Type 0} (first old : ByRule V) (history left : List CoreEvent) (claimed : List (Option ℕ)) where
  pub ends_claim : (seat number : ℕ) → IsTakingEnds first history (Claim seat number ∷ left) claimed old → IsTakingEnds first history left (slice_set claimed seat (Some number)) old
  ends_claim seat number is = record { done = is.done; whole = is.whole; taking = is.taking }

  pub ends_other : (event : CoreEvent) → ((seat number : ℕ) → event ≢ Claim seat number) → ((seat : ℕ) (verdict : Verdict) (writes : List (Names × Stamp)) → event ≢ Finish seat verdict writes)
      → IsTakingEnds first history (event ∷ left) claimed old → IsTakingEnds first history left claimed old
  ends_other (Claim seat number) no_claim no_end is = absurd (no_claim seat number refl)
  ends_other (Ask seat text answer) no_claim no_end is = record { done = is.done; whole = is.whole; taking = is.taking }
  ends_other (Deny seat text verdict) no_claim no_end is = record { done = is.done; whole = is.whole; taking = is.taking }
  ends_other (Finish seat verdict writes) no_claim no_end is = absurd (no_end seat verdict writes refl)
  ends_other (Stop seat cause) no_claim no_end is = record { done = is.done; whole = is.whole; taking = is.taking }

  -- the end of the command of this rule, or of none
  module _ (seat : ℕ) (verdict : Verdict) (writes : List (Names × Stamp)) (is : IsTakingEnds first history (Finish seat verdict writes ∷ left) claimed old) (given : Option ℕ) (same : given ≡ claimed_by claimed seat) where
    abbrev rest : List ℕ
    rest = numbers (ends_from claimed left)

    whole_so : is.done ++ numbers (ends_at given verdict (ends_from claimed left)) ≡ numbers (ends history)
    whole_so = ap (λ (n : Option ℕ). is.done ++ numbers (ends_at n verdict (ends_from claimed left))) same ∙ is.whole

    taking_so : IsTaking first is.done (numbers (ends_at given verdict (ends_from claimed left))) old
    taking_so = subst (λ (n : Option ℕ). IsTaking first is.done (numbers (ends_at n verdict (ends_from claimed left))) old) (sym same) is.taking

    pub named_end : (number : ℕ) → given ≡ Some number → IsSome (value_at old number)
    named_end number here = named_now first old old is.done rest number (subst (λ (n : Option ℕ). IsTaking first is.done (numbers (ends_at n verdict (ends_from claimed left))) old) here taking_so)

    pub ends_finish : (new : ByRule V) → HasRoom new → ((at : ℕ) (value : V) → given ≡ Some at → value_at old at ≡ Some value → new.begun.items ≡ old.begun.items ++ value ∷ [])
        → ((at other : ℕ) → given ≡ Some at → other ≢ at → value_at new other ≡ value_at old other) → (given ≡ None → new ≡ old) → IsTakingEnds first history left claimed new
    ends_finish new room begun others none = by given refl
      where
        by : (n : Option ℕ) → given ≡ n → IsTakingEnds first history left claimed new
        by None is_none = record {
          done = is.done;
          whole = subst (λ (n : Option ℕ). is.done ++ numbers (ends_at n verdict (ends_from claimed left)) ≡ numbers (ends history)) is_none whole_so;
          taking =
              subst (IsTaking first is.done rest) (sym (none is_none)) (subst (λ (n : Option ℕ). IsTaking first is.done (numbers (ends_at n verdict (ends_from claimed left))) old) is_none taking_so);
        }
        by (Some number) here = record {
          done = is.done ++ number ∷ [];
          whole =
              append_assoc is.done (number ∷ []) rest
              ∙ subst (λ (n : Option ℕ). is.done ++ numbers (ends_at n verdict (ends_from claimed left)) ≡ numbers (ends history)) here whole_so;
          taking =
              taking_one first old new is.done rest number (subst (λ (n : Option ℕ). IsTaking first is.done (numbers (ends_at n verdict (ends_from claimed left))) old) here taking_so) room (λ value there. begun number value here there)
              (λ other apart. others number other here apart);
        }

-- at the end all are taken
pub all_taken : {V : Type 0} (first : ByRule V) (history left : List CoreEvent) (claimed : List (Option ℕ)) (values : ByRule V) → left ≡ [] → IsTakingEnds first history left claimed values
    → map Some values.begun.items ≡ map (value_at first) (numbers (ends history))
all_taken first history left claimed values none is =
    is.taking.taken
    ∙ ap (map (value_at first)) (sym (append-nil is.done) ∙ subst (λ (l : List CoreEvent). is.done ++ numbers (ends_from claimed l) ≡ numbers (ends history)) none is.whole)
