-- Sets of the outputs of readings.
use Rattle.std.proofs.Common.{◌≡◌, ◌∙◌, ℕ, ◌+◌, ◌<◌, Bool, true, false, cond, ◌||◌, List, [], ◌∷◌, ◌++◌, length, get_or, take, Option, Some, None, refl, sym, ap}
use Rattle.std.specs.BTreeSet.{BTreeSet, contains}
use Rattle.std.specs.FinMap as finite
use Rattle.std.specs.Ordering.{eq_by_cmp}
use Rattle.std.specs.List.{list_any}
use Rattle.std.proofs.lemmas.List.{take_more}
use Rattle.std.proofs.lemmas.List.Folds.{list_any-append}
use Rattle.tup_path.specs.Name.{Names}
use Rattle.tup_path.specs.Order.{by_names, by_names-total, same_path}
use Rattle.tup_rule.specs.Rule.{among}
use Rattle.tup_rule.specs.declared.draft.Draft.{Draft}
use Rattle.tup_rule.specs.declared.question.Reading.{Reading}
use Rattle.tup_rule_line.specs.Making.{is_made}
use Rattle.tup_readings.specs.Answers.{Readings, drafts_of}
use Rattle.tup_readings.specs.Done.{AddsPaths, AreOutputs, Know, Sets}
use Rattle.tup_readings.proofs.Working.{same_test}

-- ---- tests

or_off : (b : Bool) → b ≡ (b || false)
or_off true = refl
or_off false = refl

or_last : (b one more : Bool) → cond one true (b || more) ≡ (b || (more || (one || false)))
or_last true true more = refl
or_last true false more = refl
or_last false true true = refl
or_last false true false = refl
or_last false false true = refl
or_last false false false = refl

or_behind : (a b : Bool) → (a || b) ≡ (a || (b || false))
or_behind true b = refl
or_behind false true = refl
or_behind false false = refl

taken : {X : Type 0} (xs : List X) (i : ℕ) (x d : X) → i < length xs → x ≡ get_or xs i d → take (i + 1) xs ≡ take i xs ++ x ∷ []
taken xs i x d less is = take_more xs i d less ∙ ap (λ (y : _). take i xs ++ y ∷ []) (sym is)

-- ---- a set that grows

pub adds_none : (set : BTreeSet Names) → AddsPaths [] set set
adds_none set path = or_off (contains by_names set path)

pub adds_more : (paths : List Names) (i : ℕ) (added d : Names) (old mid new : BTreeSet Names) → i < length paths → added ≡ get_or paths i d → AddsPaths (take i paths) old mid
    → ((path : Names) → contains by_names new path ≡ cond (eq_by_cmp by_names added path) true (contains by_names mid path)) → AddsPaths (take (i + 1) paths) old new
adds_more paths i added d old mid new less here before updates path =
    updates path ∙ ap (λ b. cond b true (contains by_names mid path)) (same_test added path) ∙ ap (λ b. cond (same_path path added) true b) (before path)
    ∙ or_last (contains by_names old path) (same_path path added) (among path (take i paths))
    ∙ ap (λ b. contains by_names old path || b) (sym (list_any-append (same_path path) (take i paths) (added ∷ [])) ∙ ap (among path) (sym (taken paths i added d less here)))

-- ---- the outputs of rules

pub outputs_none : (set : BTreeSet Names) → set.keys ≡ [] → AreOutputs [] set
outputs_none set none path = ap (list_any (eq_by_cmp by_names path)) none

pub outputs_more : (drafts : List Draft) (i : ℕ) (draft d : Draft) (old new : BTreeSet Names) → i < length drafts → draft ≡ get_or drafts i d → AreOutputs (take i drafts) old
    → AddsPaths draft.outputs old new → AreOutputs (take (i + 1) drafts) new
outputs_more drafts i draft d old new less here before adds path =
    adds path ∙ ap (λ b. b || among path draft.outputs) (before path) ∙ or_behind (is_made (take i drafts) path) (among path draft.outputs)
    ∙ sym (list_any-append (λ (one : Draft). among path one.outputs) (take i drafts) (draft ∷ [])) ∙ ap (λ l. is_made l path) (sym (taken drafts i draft d less here))

-- ---- the outputs of readings

pub know_none : Know finite.empty finite.empty
know_none dir path =
    ap (λ (found : Option (BTreeSet Names)). elim found as (λ _. Bool) [ Some set ↦ contains by_names set path | None ↦ false ]) (finite.get-empty by_names dir)
    ∙ sym (ap (λ (found : Option Reading). is_made (elim found as (λ _. List Draft) [ Some reading ↦ reading.drafts | None ↦ [] ]) path) (finite.get-empty by_names dir))

pub know_more : (readings : Readings) (sets : Sets) (dir : Names) (reading : Reading) (set : BTreeSet Names) → Know readings sets → AreOutputs reading.drafts set
    → Know (finite.insert readings dir reading) (finite.insert sets dir set)
know_more readings sets dir reading set know are other path =
    ap found_in (finite.get-insert by_names-total sets dir set other) ∙ by (eq_by_cmp by_names other dir)
    ∙ sym (ap made_in (finite.get-insert by_names-total readings dir reading other))
  where
    found_in : Option (BTreeSet Names) → Bool
    found_in found = elim found as (λ _. Bool) [ Some s ↦ contains by_names s path | None ↦ false ]

    made_in : Option Reading → Bool
    made_in found = is_made (elim found as (λ _. List Draft) [ Some left ↦ left.drafts | None ↦ [] ]) path

    by : (b : Bool) → found_in (cond b (Some set) (finite.get sets other)) ≡ made_in (cond b (Some reading) (finite.get readings other))
    by true = are path
    by false = know other path

-- what is looked up
pub makes_there : (readings : Readings) (sets : Sets) (dir path : Names) (set : BTreeSet Names) (b : Bool) → Know readings sets → Some set ≡ finite.get sets dir → b ≡ contains by_names set path
    → b ≡ is_made (drafts_of readings dir) path
makes_there readings sets dir path set b know here is =
    is ∙ ap (λ (found : Option (BTreeSet Names)). elim found as (λ _. Bool) [ Some s ↦ contains by_names s path | None ↦ false ]) here ∙ know dir path

pub makes_nowhere : (readings : Readings) (sets : Sets) (dir path : Names) → Know readings sets → None ≡ finite.get sets dir → false ≡ is_made (drafts_of readings dir) path
makes_nowhere readings sets dir path know none =
    ap (λ (found : Option (BTreeSet Names)). elim found as (λ _. Bool) [ Some s ↦ contains by_names s path | None ↦ false ]) none ∙ know dir path
