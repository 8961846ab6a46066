-- Reporters that are told one after another.
use Rattle.std.proofs.Common.{◌≡◌, ◌<◌, ◌≤◌, ◌+◌, ◌-◌, ℕ, suc, List, [], ◌∷◌, ◌++◌, Result, Ok, Err, inl, inr, length, drop, drop-cons, take, get_or, set, refl, sym, ap, subst, arith, append_assoc, append-nil, length-append, ◌∙◌}
use Rattle.std.specs.Result.{IsErrAnd}
use Rattle.std.specs.List.{remove}
use Rattle.std.proofs.Math.Seq.{get_or-append_seam, set-append_seam}
use Rattle.std.proofs.lemmas.List.{take-append-drop}
use Rattle.std.proofs.lemmas.List.Edits.{remove-append_right}
use Rattle.tup_path.specs.Count.{Rose}
use Rattle.tup_tell.specs.Told.{FailsByCount}
use Rattle.tup_tell.specs.declared.reporter.TellFailed.{TellFailed}
use Rattle.tup_tell.specs.declared.reporter.TellFailed.TheVariants.{Fault, Memory}
use Rattle.tup_tell.specs.Parted.{AreCutOff, AreTold, HasFailed, IsTold, IsToldSome, Part}
use Rattle.tup_tell.specs.declared.event.Event.{Event}

-- ---- a refusal that is handed on
pub failed_so : (why failed : TellFailed) (result : Result (Unit {0}) TellFailed) → IsErrAnd result (λ e. e ≡ failed) → result ≡ Err why → failed ≡ why
failed_so why failed (Ok value) is same = absurd is
failed_so why failed (Err given) is same = let it : given ≡ why = cc same in sym is ∙ it

pub rose_of : (before now : ℕ) (failed : TellFailed) → FailsByCount {T = Unit {0}} before now (Err failed) → failed ≡ Fault → Rose before now
rose_of before now Fault cause is = cause
rose_of before now Memory cause is = absurd (cc is)

pub steady_of : (before now : ℕ) (failed : TellFailed) → FailsByCount {T = Unit {0}} before now (Err failed) → failed ≡ Memory → now ≡ before
steady_of before now Fault cause is = absurd (cc is)
steady_of before now Memory cause is = cause

-- an event of some, those before it and those behind
pub around : (events : List Event) (at : ℕ) (event : Event) → at < length events → event ≡ get_or events at event → take at events ++ event ∷ drop (suc at) events ≡ events
around events at event less is =
    let rest : drop at events ≡ event ∷ drop (suc at) events = drop-cons events at event less ∙ ap (λ (e : Event). e ∷ drop (suc at) events) (sym is) in
    ap (λ (l : List Event). take at events ++ l) (sym rest) ∙ take-append-drop at events

-- ---- one value more stays, or leaves
module _ {T : Type 0} (Stays Leaves : T → T → Type 0) (one now : T) where
  pub part_stays : Stays one now → (before kept left : List T) → Part Stays Leaves before kept left → Part Stays Leaves (before ++ one ∷ []) (kept ++ now ∷ []) left
  part_stays is [] kept left (none, same) = inl (now, [], ap (λ (l : List T). l ++ now ∷ []) none, is, (refl, same))
  part_stays is (first ∷ more) kept left (inl (it, rest, here, stays, parted)) = inl (it, rest ++ now ∷ [], ap (λ (l : List T). l ++ now ∷ []) here, stays, part_stays is more rest left parted)
  part_stays is (first ∷ more) kept left (inr (it, rest, here, leaves, parted)) = inr (it, rest, here, leaves, part_stays is more kept rest parted)

  pub part_leaves : Leaves one now → (before kept left : List T) → Part Stays Leaves before kept left → Part Stays Leaves (before ++ one ∷ []) kept (left ++ now ∷ [])
  part_leaves is [] kept left (none, same) = inr (now, [], ap (λ (l : List T). l ++ now ∷ []) same, is, (none, refl))
  part_leaves is (first ∷ more) kept left (inl (it, rest, here, stays, parted)) = inl (it, rest, here, stays, part_leaves is more rest left parted)
  part_leaves is (first ∷ more) kept left (inr (it, rest, here, leaves, parted)) = inr (it, rest ++ now ∷ [], ap (λ (l : List T). l ++ now ∷ []) here, leaves, part_leaves is more kept rest parted)

-- a list is a front, one value, and others
front_grows : {T : Type 0} (front : List T) (one : T) (more : List T) → front ++ one ∷ more ≡ (front ++ one ∷ []) ++ more
front_grows front one more = sym (append_assoc front (one ∷ []) more)

one_longer : {T : Type 0} (front : List T) (one : T) → length (front ++ one ∷ []) ≡ length front + 1
one_longer front one = length-append front (one ∷ [])

-- what stands behind a front is no more than the front where it is empty
is_more : {T : Type 0} (front after : List T) → length front < length (front ++ after) → (one : T) × (more : List T) × (after ≡ one ∷ more)
is_more front [] less = absurd (let none : length (front ++ []) ≡ length front = ap length (append-nil front) in omega (arith, less, none))
is_more front (one ∷ more) less = (one, more, refl)

is_none : {T : Type 0} (front after : List T) → length (front ++ after) ≤ length front → after ≡ []
is_none front [] past = refl
is_none front (one ∷ more) past = absurd (let long = length-append front (one ∷ more) in omega (arith, past, long))

module _ {T : Type 0} (told : T → List Event) (faults : T → ℕ) (events : List Event) where
  -- the first of some values were told, those behind them weren't
  pub record IsTelling (old now failed : List T) (at : ℕ) : Type 0 where
    pub before : List T
    pub after : List T
    pub kept : List T
    pub old_are : old ≡ before ++ after
    pub now_are : now ≡ kept ++ after
    pub so_far : length kept ≡ at
    pub told_before : AreTold told faults events before kept failed

  pub none_told : (old failed : List T) → failed ≡ [] → IsTelling old old failed 0
  none_told old failed none = record { before = []; after = old; kept = []; old_are = refl; now_are = refl; so_far = refl; told_before = (refl, none) }

  pub none_at_all : (old failed : List T) → failed ≡ [] → AreCutOff told faults events old old failed
  none_at_all old failed none = record { before = []; after = old; kept = []; old_are = refl; told_before = (refl, none); others = inl refl }

  pub all_told : (old now failed : List T) (at : ℕ) → IsTelling old now failed at → length now ≤ at → AreTold told faults events old now failed
  all_told old now failed at is past =
      let none : is.after ≡ [] = is_none is.kept is.after (subst (λ (l : List T). length l ≤ length is.kept) is.now_are (subst (λ (n : ℕ). length now ≤ n) (sym is.so_far) past)) in
      let old_are : old ≡ is.before = is.old_are ∙ ap (λ (l : List T). is.before ++ l) none ∙ append-nil is.before in
      let now_are : now ≡ is.kept = is.now_are ∙ ap (λ (l : List T). is.kept ++ l) none ∙ append-nil is.kept in
      subst (λ (l : List T). AreTold told faults events l now failed) (sym old_are) (subst (λ (l : List T). AreTold told faults events is.before l failed) (sym now_are) is.told_before)

  -- ---- the next one is told
  module _ (old now failed : List T) (at : ℕ) (is : IsTelling old now failed at) (less : at < length now) (was value : T) (here : was ≡ get_or now at was) where
    split : (one : T) × (more : List T) × (is.after ≡ one ∷ more)
    split = is_more is.kept is.after (subst (λ (l : List T). length is.kept < length l) is.now_are (subst (λ (n : ℕ). n < length now) (sym is.so_far) less))

    abbrev more : List T
    more = split.1

    same : is.after ≡ was ∷ more
    same =
        let it : get_or now at was ≡ split.0 =
        ap (λ (n : ℕ). get_or now n was) (sym is.so_far) ∙ ap (λ (l : List T). get_or l (length is.kept) was) (is.now_are ∙ ap (λ (l : List T). is.kept ++ l) split.2) ∙ get_or-append_seam is.kept split.0 more was in
        split.2 ∙ ap (λ (one : T). one ∷ more) (sym (here ∙ it))

    abbrev told_now : List T
    told_now = set now at value

    written : told_now ≡ is.kept ++ value ∷ more
    written =
        ap (λ (n : ℕ). set now n value) (sym is.so_far) ∙ ap (λ (l : List T). set l (length is.kept) value) (is.now_are ∙ ap (λ (l : List T). is.kept ++ l) same) ∙ set-append_seam is.kept was more value

    old_split : old ≡ (is.before ++ was ∷ []) ++ more
    old_split = is.old_are ∙ ap (λ (l : List T). is.before ++ l) same ∙ front_grows is.before was more

    pub one_stays : IsTold told faults events was value → IsTelling old told_now failed (at + 1)
    one_stays stays = record {
      before = is.before ++ was ∷ [];
      after = more;
      kept = is.kept ++ value ∷ [];
      old_are = old_split;
      now_are = written ∙ front_grows is.kept value more;
      so_far = one_longer is.kept value ∙ ap (λ (n : ℕ). n + 1) is.so_far;
      told_before = part_stays (IsTold told faults events) (HasFailed told faults events) was value stays is.before is.kept failed is.told_before;
    }

    pub one_leaves : HasFailed told faults events was value → (taken : T) → taken ≡ get_or told_now at taken → IsTelling old (remove told_now at) (failed ++ taken ∷ []) at
    one_leaves leaves taken there = record {
      before = is.before ++ was ∷ [];
      after = more;
      kept = is.kept;
      old_are = old_split;
      now_are = removed;
      so_far = is.so_far;
      told_before = subst (λ (one : T). AreTold told faults events (is.before ++ was ∷ []) is.kept (failed ++ one ∷ [])) (sym it) (part_leaves (IsTold told faults events) (HasFailed told faults events) was value leaves is.before is.kept failed is.told_before);
    }
      where
        it : taken ≡ value
        it = there ∙ ap (λ (n : ℕ). get_or told_now n taken) (sym is.so_far) ∙ ap (λ (l : List T). get_or l (length is.kept) taken) written ∙ get_or-append_seam is.kept value more taken

        removed : remove told_now at ≡ is.kept ++ more
        removed =
            ap (λ (n : ℕ). remove told_now n) (sym is.so_far) ∙ ap (λ (l : List T). remove l (length is.kept)) written
            ∙ remove-append_right is.kept (value ∷ more) (length is.kept) (length is.kept) refl (omega arith)
            ∙ ap (λ (n : ℕ). is.kept ++ remove (value ∷ more) n) (let none : length is.kept - length is.kept ≡ 0 = omega arith in none)

    pub one_cuts_off : IsToldSome told faults events was value → AreCutOff told faults events old told_now failed
    one_cuts_off some = record {
      before = is.before;
      after = is.after;
      kept = is.kept;
      old_are = is.old_are;
      told_before = is.told_before;
      others = inr (was, value, more, same, written, some);
    }
