-- What a log says of the rules that ended, by what was told of a history.
use Rattle.std.proofs.Common.{◌≡◌, ℕ, true, false, List, [], ◌∷◌, ◌++◌, map, Option, None, Some, refl, sym, ap, ap₂, ◌∙◌, subst, append_assoc, nat_lt, length, length-append, ◌≤◌, ◌+◌, arith}
use Rattle.std.specs.Prelude.{All}
use Rattle.std.specs.List.{cons_option, filter_map, slice_get, slice_set}
use Rattle.std.specs.Option.{IsSome, option_map, unwrap_or}
use Rattle.std.proofs.lemmas.List.{length-map}
use Rattle.std.proofs.lemmas.Bool.{ltb-false}
use Rattle.std.proofs.lemmas.Option.{slice_get_past}
use Rattle.std.proofs.lemmas.List.Elements.{All-nil, All-cons, All-head, All-tail, filter_map-append}
use Rattle.tup_path.specs.Name.{Names}
use Rattle.tup_stamp.specs.declared.Stamp.{Stamp}
use Rattle.tup_access.specs.declared.verdict.Verdict.{Verdict}
use Rattle.tup_clean.specs.Clean.{is_good}
use Rattle.tup_rule.specs.declared.rule.Rule.{Rule}
use Rattle.tup_rule.specs.declared.rule.RuleName.{RuleName}
use Rattle.tup_rule.specs.Rule.{label_of, name_of}
use Rattle.tup_phases.specs.Logged.{AreGood}
use Rattle.tup_promise.specs.declared.log.EndedRule.{EndedRule}
use Rattle.tup_core.specs.declared.event.CoreEvent.{CoreEvent}
use Rattle.tup_core.specs.declared.event.CoreEvent.TheVariants.{Claim, Ask, Deny, Finish, Stop}
use Rattle.tup_update.specs.Ended.{claimed_by, ends, ends_at, ends_from, numbers, told_ends, told_of}
use Rattle.tup_update.specs.Names.{name_in}
use Rattle.tup_update.proofs.Ending.{EndsWell}

-- the end of a command
abbrev pub End : Type 0
End = ℕ × Verdict

-- the rules that are told of
abbrev pub rules_in : List EndedRule → List RuleName
rules_in ended = map (λ (one : EndedRule). one.rule) ended

-- ---- the names of the rules that are told of
module _ (rules : List Rule) where
  abbrev names : ℕ → Option RuleName
  names = name_in rules

  pub told_names : (list : List End) → rules_in (told_ends rules list) ≡ filter_map names (numbers list)
  told_names [] = refl
  told_names (end ∷ list) = by (slice_get rules end.0) ∙ ap (cons_option (names end.0)) (told_names list)
    where
      by : (found : Option Rule) → rules_in (cons_option (option_map (λ (rule : Rule). record { rule = name_of rule; label = label_of rule; verdict = end.1 }) found) (told_ends rules list))
          ≡ cons_option (option_map name_of found) (rules_in (told_ends rules list))
      by None = refl
      by (Some rule) = refl

  -- the name of the rule with a number that has one
  abbrev pub name_or : ℕ → RuleName
  name_or number = unwrap_or (names number) (record { dir = []; text = [] })

  abbrev pub HasOne : ℕ → Type 0
  HasOne number = IsSome (names number)

  -- names that were taken for numbers, each of which has one
  pub taken_names : (numbers : List ℕ) (ran : List RuleName) → map Some ran ≡ map names numbers → (ran ≡ map name_or numbers) × All HasOne numbers
  taken_names [] [] same = (refl, All-nil HasOne)
  taken_names [] (name ∷ ran) same = absurd (cc)
  taken_names (number ∷ numbers) [] same = absurd (cc)
  taken_names (number ∷ numbers) (name ∷ ran) same =
      let here : Some name ≡ names number = cc in
      let rest : map Some ran ≡ map names numbers = cc in
      let more = taken_names numbers ran rest in (
        ap₂ (λ (one : RuleName) (others : List RuleName). one ∷ others) (ap (λ (o : Option RuleName). unwrap_or o (record { dir = []; text = [] })) here) more.0,
        All-cons HasOne number numbers (subst IsSome here refl) more.1,
      )

  pub all_names : (numbers : List ℕ) → All HasOne numbers → filter_map names numbers ≡ map name_or numbers
  all_names [] have = refl
  all_names (number ∷ numbers) have =
      by (names number) (All-head HasOne number numbers have) ∙ ap (λ (more : List RuleName). name_or number ∷ more) (all_names numbers (All-tail HasOne number numbers have))
    where
      by : (o : Option RuleName) → IsSome o → cons_option o (filter_map names numbers) ≡ unwrap_or o (record { dir = []; text = [] }) ∷ filter_map names numbers
      by None some = absurd (cc)
      by (Some name) some = refl

  pub some_names : (numbers : List ℕ) → All HasOne numbers → map Some (map name_or numbers) ≡ map names numbers
  some_names [] have = refl
  some_names (number ∷ numbers) have =
      ap₂ (λ (one : Option RuleName) (others : List (Option RuleName)). one ∷ others) (by (names number) (All-head HasOne number numbers have)) (some_names numbers (All-tail HasOne number numbers have))
    where
      by : (o : Option RuleName) → IsSome o → Some (unwrap_or o (record { dir = []; text = [] })) ≡ o
      by None some = absurd (cc)
      by (Some name) some = refl

  -- so as many are told of as ended
  pub told_all_names : (list : List End) → All HasOne (numbers list) → rules_in (told_ends rules list) ≡ map name_or (numbers list)
  told_all_names list have = told_names list ∙ all_names (numbers list) have

  pub told_many : (list : List End) → All HasOne (numbers list) → length (told_ends rules list) ≡ length list
  told_many list have =
      sym (length-map (told_ends rules list) (λ (one : EndedRule). one.rule))
      ∙ ap length (told_all_names list have)
      ∙ length-map (numbers list) name_or
      ∙ length-map list (λ (end : End). end.0)

  -- ---- and their verdicts
  -- what the end of a rule has, what is told of it has
  module _ (Has : End → Type 0) (Tells : EndedRule → Type 0) (on : (end : End) (rule : Rule) → slice_get rules end.0 ≡ Some rule → Has end → Tells (record { rule = name_of rule; label = label_of rule; verdict = end.1 })) where
    one_each : (end : End) → Has end → (more : List EndedRule) → All Tells more → (found : Option Rule) → slice_get rules end.0 ≡ found
        → All Tells (cons_option (option_map (λ (rule : Rule). record { rule = name_of rule; label = label_of rule; verdict = end.1 }) found) more)
    one_each end has more all None here = all
    one_each end has more all (Some rule) here = All-cons Tells (record { rule = name_of rule; label = label_of rule; verdict = end.1 }) more (on end rule here has) all

    pub told_each : (list : List End) → All Has list → All Tells (told_ends rules list)
    told_each [] all = All-nil Tells
    told_each (end ∷ list) all = one_each end (All-head Has end list all) (told_ends rules list) (told_each list (All-tail Has end list all)) (slice_get rules end.0) refl

  pub told_good : (list : List End) → All EndsWell list → AreGood (told_ends rules list)
  told_good = told_each EndsWell (λ (one : EndedRule). is_good (Some one.verdict) ≡ true) (λ end rule here well. well)

-- names that wait under numbers are those of the rules
pub names_alike : (rules : List Rule) (at : ℕ → Option RuleName) (numbers : List ℕ) → All (λ number. at number ≡ name_in rules number) numbers → map at numbers ≡ map (name_in rules) numbers
names_alike rules at [] named = refl
names_alike rules at (number ∷ numbers) named =
    let Named : ℕ → Type 0 = λ one. at one ≡ name_in rules one in
    ap (λ (one : Option RuleName). one ∷ map at numbers) (All-head Named number numbers named)
    ∙ ap (λ (more : List (Option RuleName)). name_in rules number ∷ more) (names_alike rules at numbers (All-tail Named number numbers named))

-- all of a front have what all of a list have
pub all_front : {A : Type 0} (P : A → Type 0) (front rest : List A) → All P (front ++ rest) → All P front
all_front P [] rest have = All-nil P
all_front P (one ∷ front) rest have = All-cons P one front (All-head P one (front ++ rest) have) (all_front P front rest (All-tail P one (front ++ rest) have))

pub all_back : {A : Type 0} (P : A → Type 0) (front rest : List A) → All P (front ++ rest) → All P rest
all_back P [] rest have = have
all_back P (one ∷ front) rest have = all_back P front rest (All-tail P one (front ++ rest) have)

-- a front of a list, of which a front is good, has a good front and no more behind it
pub front_apart : (some rest front back : List EndedRule) → some ++ rest ≡ front ++ back → AreGood front
    → (good left : List EndedRule) × (some ≡ good ++ left) × AreGood good × (length left ≤ length back)
front_apart [] rest front back same well = ([], [], refl, All-nil (λ (one : EndedRule). is_good (Some one.verdict) ≡ true), omega arith)
front_apart (one ∷ some) rest [] back same well =
    let long : length back ≡ length (one ∷ some) + length rest = ap length (sym same) ∙ length-append (one ∷ some) rest in
    ([], one ∷ some, refl, All-nil (λ (other : EndedRule). is_good (Some other.verdict) ≡ true), omega (arith, long))
front_apart (one ∷ some) rest (first ∷ front) back same well =
    let Good : EndedRule → Type 0 = λ other. is_good (Some other.verdict) ≡ true in
    let here : first ≡ one = cc in
    let more : some ++ rest ≡ front ++ back = cc in
    by (subst Good here (All-head Good first front well)) (front_apart some rest front back more (All-tail Good first front well))
  where
    by : is_good (Some one.verdict) ≡ true → ((good left : List EndedRule) × (some ≡ good ++ left) × AreGood good × (length left ≤ length back))
        → (good left : List EndedRule) × (one ∷ some ≡ good ++ left) × AreGood good × (length left ≤ length back)
    by well (good, left, are, fine, short) =
        (one ∷ good, left, ap (λ (l : List EndedRule). one ∷ l) are, All-cons (λ (other : EndedRule). is_good (Some other.verdict) ≡ true) one good well fine, short)

-- ---- a bad one among good ones
-- each among good ones is Good
pub good_among : (front back : List End) (end : End) → All EndsWell (front ++ end ∷ back) → is_good (Some end.1) ≡ true
good_among [] back end well = All-head EndsWell end back well
good_among (first ∷ front) back end well = good_among front back end (All-tail EndsWell first (front ++ end ∷ back) well)

-- ---- what is told of it
-- the ends of rules that are there
pub told_split : (rules : List Rule) (front back : List End) (end : End) (one : EndedRule) → told_of rules end ≡ Some one → told_ends rules (front ++ end ∷ back) ≡ told_ends rules front ++ one ∷ told_ends rules back
told_split rules front back end one is =
    filter_map-append (told_of rules) front (end ∷ back) ∙ ap (λ (o : Option EndedRule). told_ends rules front ++ cons_option o (told_ends rules back)) is

-- past the end of the rules there is none
pub not_there : (rules : List Rule) (number : ℕ) → false ≡ nat_lt number (length rules) → slice_get rules number ≡ None
not_there rules number past = slice_get_past rules number (ltb-false number (length rules) (sym past))

-- ---- a log that is told of the ends, one after another
module _ (rules : List Rule) where
  -- the end of one command is told in front of the others
  pub told_at : (running : Option ℕ) (verdict : Verdict) (list : List End) → told_ends rules (ends_at running verdict list) ≡ told_ends rules (ends_at running verdict []) ++ told_ends rules list
  told_at None verdict list = refl
  told_at (Some number) verdict list = by (told_of rules (number, verdict))
    where
      by : (told : Option EndedRule) → cons_option told (told_ends rules list) ≡ cons_option told [] ++ told_ends rules list
      by None = refl
      by (Some one) = refl

  -- nothing is told of a rule that isn't there
  pub told_none : (running : Option ℕ) (number : ℕ) (verdict : Verdict) → running ≡ Some number → slice_get rules number ≡ None → told_ends rules (ends_at running verdict []) ≡ []
  told_none running number verdict is none =
      ap (λ (r : Option ℕ). told_ends rules (ends_at r verdict [])) is
      ∙ ap (λ (found : Option Rule). cons_option (option_map (λ (rule : Rule). record { rule = name_of rule; label = label_of rule; verdict = verdict }) found) []) none

  -- what was told, and what is still to be told
  abbrev pub IsTelling : List EndedRule → List CoreEvent → List CoreEvent → List (Option ℕ) → List EndedRule → Type 0
  IsTelling old history left claimed ended = ended ++ told_ends rules (ends_from claimed left) ≡ old ++ told_ends rules (ends history)

  module _ (old : List EndedRule) (history rest : List CoreEvent) (event : CoreEvent) (claimed : List (Option ℕ)) (ended : List EndedRule) (telling : IsTelling old history (event ∷ rest) claimed ended) where
    pub tells_claim : (seat number : ℕ) → event ≡ Claim seat number → IsTelling old history rest (slice_set claimed seat (Some number)) ended
    tells_claim seat number is = subst (λ (e : CoreEvent). IsTelling old history (e ∷ rest) claimed ended) is telling

    pub tells_finish : (seat : ℕ) (verdict : Verdict) (writes : List (Names × Stamp)) → event ≡ Finish seat verdict writes → (number : Option ℕ) → number ≡ claimed_by claimed seat → (new : List EndedRule)
        → new ≡ ended ++ told_ends rules (ends_at number verdict []) → IsTelling old history rest claimed new
    tells_finish seat verdict writes is number is_it new more =
        ap (λ (l : List EndedRule). l ++ told_ends rules (ends_from claimed rest)) (more ∙ ap (λ (n : Option ℕ). ended ++ told_ends rules (ends_at n verdict [])) is_it)
        ∙ append_assoc ended (told_ends rules (ends_at (claimed_by claimed seat) verdict [])) (told_ends rules (ends_from claimed rest))
        ∙ ap (λ (l : List EndedRule). ended ++ l) (sym (told_at (claimed_by claimed seat) verdict (ends_from claimed rest)))
        ∙ subst (λ (e : CoreEvent). IsTelling old history (e ∷ rest) claimed ended) is telling

    pub tells_other : ((seat number : ℕ) → event ≡ Claim seat number → ⊥) → ((seat : ℕ) (verdict : Verdict) (writes : List (Names × Stamp)) → event ≡ Finish seat verdict writes → ⊥) → IsTelling old history rest claimed ended
    tells_other claim finish = by event refl telling
      where
        by : (it : CoreEvent) → event ≡ it → IsTelling old history (it ∷ rest) claimed ended → IsTelling old history rest claimed ended
        by (Claim seat number) is same = absurd (claim seat number is)
        by (Ask seat text answer) is same = same
        by (Deny seat text verdict) is same = same
        by (Finish seat verdict writes) is same = absurd (finish seat verdict writes is)
        by (Stop seat cause) is same = same
