-- A site in memory goes on by what its list takes up.
use Rattle.std.proofs.Common.{◌≡◌, ◌⊎◌, inl, inr, ⊎_elim, ℕ, ◌+◌, ◌≤◌, ◌-◌, ◌^◌, min, Bool, true, false, List, [], ◌∷◌, ◌++◌, is_some, IsTrue, Result, Ok, Err, OnOk, length, take, if◌then◌else◌, refl, sym, ap, subst, ◌∙◌, arith, length-append}
use Rattle.std.proofs.lemmas.Bool.{cases_lt}
use Rattle.std.proofs.lemmas.List.{take_all, take-append-le, append-nil}
use Rattle.std.specs.FinMap as finite
use Rattle.tup_path.specs.Name.{Names, Content}
use Rattle.tup_path.specs.Tree.{Tree}
use Rattle.tup_site.specs.World.{World}
use Rattle.tup_site.specs.Known.{knows, Keeps}
use Rattle.tup_site.specs.Crash.{Follows, GoesOn, NoStep, FileStep, WriteStep, CutStep, PinsTree, PinsStore}
use Rattle.tup_site.specs.State.{State, IsImage}
use Rattle.tup_site.specs.History.{at_first, after, after_all, failures, failures_in, LeftSince}
use Rattle.tup_site.specs.Sound.{IsSound, IsNow}
use Rattle.tup_site.specs.Laws.{left_now, image_now}
use Rattle.tup_site.specs.Memory.{tree_in, store_in, world_in, first_of, changes_of, state_of, known_in, moment_of, left_since, added, added_by, removal}
use Rattle.tup_site.specs.declared.change.Change.{Change}
use Rattle.tup_site.specs.declared.change.Change.TheVariants.{Put, Removed, Settled, Written, Cut, Synced, Failed}
use Rattle.tup_site.specs.declared.fault.SiteFailed.{SiteFailed}
use Rattle.tup_site.specs.declared.fault.SiteFailed.TheVariants.{Fault, TooLarge, Memory}
use Rattle.tup_site.specs.declared.memory.MemSite.{MemSite}
use Rattle.tup_site.proofs.Among.{knows_more}
use Rattle.tup_site.proofs.Images.{put_step, removed_step, settled_step, settled_pins, synced_step, synced_pins}
use Rattle.tup_site.proofs.Torn.{written_step, cut_step}
use Rattle.tup_site.proofs.Sound.{Fits, sound_after}

-- ---- the list

pub after_all-append : (s : State) (xs ys : List Change) → after_all s (xs ++ ys) ≡ after_all (after_all s xs) ys
after_all-append s [] ys = refl
after_all-append s (x ∷ xs) ys = after_all-append (after s x) xs ys

failures-append : (xs ys : List Change) → failures (xs ++ ys) ≡ failures xs + failures ys
failures-append [] ys = omega arith
failures-append (x ∷ xs) ys = omega (arith, failures-append xs ys)

older : (first : State) (xs ys : List Change) (t : ℕ) (w : World) → LeftSince first xs t w → LeftSince first (xs ++ ys) t w
older first xs ys t w left = record {
  moment = left.moment;
  since = left.since;
  past = omega (arith, left.past, length-append xs ys);
  image = subst (λ (l : List Change). IsImage (after_all first l) w) (sym (take-append-le left.moment xs ys left.past)) left.image;
}

newer : (first : State) (xs : List Change) (change : Change) (t : ℕ) (w : World) → LeftSince first (xs ++ change ∷ []) t w → LeftSince first xs t w ⊎ IsImage (after (after_all first xs) change) w
newer first xs change t w left = elim (cases_lt (length xs) left.moment) [
  | inl more ↦
      let all : take left.moment (xs ++ change ∷ []) ≡ xs ++ change ∷ [] = take_all left.moment (xs ++ change ∷ []) (omega (arith, more, length-append xs (change ∷ []))) in
      inr (subst (λ (s : State). IsImage s w) (ap (after_all first) all ∙ after_all-append first xs (change ∷ [])) left.image)
  | inr within ↦ inl record {
    moment = left.moment;
    since = left.since;
    past = within;
    image = subst (λ (l : List Change). IsImage (after_all first l) w) (take-append-le left.moment xs (change ∷ []) within) left.image;
  }
]

-- ---- one call

-- the images after a change, from those before it
abbrev StepsBy : State → Change → (World → World → Type 0) → Type 0
StepsBy s change step = (w : World) → IsImage (after s change) w → IsImage s w ⊎ Follows step (IsImage s) w

module _ (old new : MemSite) (same : first_of new ≡ first_of old) where
  first-new : at_first (first_of new) ≡ at_first (first_of old)
  first-new = ap at_first same

  pub state_noted : (changes : List Change) → changes_of new ≡ changes_of old ++ changes → state_of new ≡ after_all (state_of old) changes
  state_noted changes noted = ap (λ (s : State). after_all s (changes_of new)) first-new ∙ ap (after_all (at_first (first_of old))) noted ∙ after_all-append (at_first (first_of old)) (changes_of old) changes

  back : (changes : List Change) → changes_of new ≡ changes_of old ++ changes → (t : ℕ) (w : World) → left_since new t w → LeftSince (at_first (first_of old)) (changes_of old ++ changes) t w
  back changes noted t w left = subst (λ (l : List Change). LeftSince (at_first (first_of old)) l t w) noted (subst (λ (s : State). LeftSince s (changes_of new) t w) first-new left)

  on : (changes : List Change) → changes_of new ≡ changes_of old ++ changes → (t : ℕ) (w : World) → LeftSince (at_first (first_of old)) (changes_of old ++ changes) t w → left_since new t w
  on changes noted t w left = subst (λ (s : State). LeftSince s (changes_of new) t w) (sym first-new) (subst (λ (l : List Change). LeftSince (at_first (first_of old)) l t w) (sym noted) left)

  later : (changes : List Change) → changes_of new ≡ changes_of old ++ changes → moment_of old ≤ moment_of new
  later changes noted = omega (arith, ap length noted, length-append (changes_of old) changes)

  by_none : (step : World → World → Type 0) → changes_of new ≡ changes_of old ++ [] → GoesOn moment_of left_since old new step
  by_none step noted = record {
    later = later [] noted;
    kept = λ t w le left. on [] noted t w (older (at_first (first_of old)) (changes_of old) [] t w left);
    since = λ t w le left. inl (subst (λ (l : List Change). LeftSince (at_first (first_of old)) l t w) (append-nil (changes_of old)) (back [] noted t w left));
  }

  by_one : (step : World → World → Type 0) (change : Change) → StepsBy (state_of old) change step → changes_of new ≡ changes_of old ++ change ∷ [] → GoesOn moment_of left_since old new step
  by_one step change steps noted = record {
    later = later (change ∷ []) noted;
    kept = λ t w le left. on (change ∷ []) noted t w (older (at_first (first_of old)) (changes_of old) (change ∷ []) t w left);
    since = λ t w le left. elim (newer (at_first (first_of old)) (changes_of old) change t w (back (change ∷ []) noted t w left)) [
      | inl before ↦ inl before
      | inr image ↦ elim (steps w image) [
        | inl was ↦ inl (left_now (at_first (first_of old)) (changes_of old) t w le was)
        | inr follows ↦ inr (follows.0, left_now (at_first (first_of old)) (changes_of old) (moment_of old) follows.0 (omega arith) follows.1, follows.2)
      ]
    ];
  }

  by_refusal : (step : World → World → Type 0) (failed : SiteFailed) → changes_of new ≡ changes_of old ++ added_by failed → GoesOn moment_of left_since old new step
  by_refusal step Fault noted = by_one step Failed (λ w image. inl image) noted
  by_refusal step (TooLarge n) noted = by_none step noted
  by_refusal step Memory noted = by_none step noted

  -- a call that changes nothing
  pub reads : {T : Type 0} (result : Result T SiteFailed) → changes_of new ≡ changes_of old ++ added result [] → GoesOn moment_of left_since old new NoStep
  reads (Ok value) noted = by_none NoStep noted
  reads (Err failed) noted = by_refusal NoStep failed noted

  -- a call of one change
  pub changes_by : {T : Type 0} (step : World → World → Type 0) (change : Change) (result : Result T SiteFailed) → StepsBy (state_of old) change step → changes_of new ≡ changes_of old ++ added result (change ∷ []) → GoesOn moment_of left_since old new step
  changes_by step change (Ok value) steps noted = by_one step change steps noted
  changes_by step change (Err failed) steps noted = by_refusal step failed noted

  -- ---- what is known then

  known_by : (changes : List Change) → changes_of new ≡ changes_of old ++ changes → known_in new ≡ (after_all (state_of old) changes).known
  known_by changes noted = ap (λ (s : State). s.known) (state_noted changes noted)

  known_refused : (failed : SiteFailed) → changes_of new ≡ changes_of old ++ added_by failed → known_in new ≡ known_in old
  known_refused Fault noted = known_by (Failed ∷ []) noted
  known_refused (TooLarge n) noted = known_by [] noted
  known_refused Memory noted = known_by [] noted

  -- a call that puts no file
  pub same_known : {T : Type 0} (changes : List Change) (result : Result T SiteFailed) → (after_all (state_of old) changes).known ≡ known_in old → changes_of new ≡ changes_of old ++ added result changes → known_in new ≡ known_in old
  same_known changes (Ok value) none noted = known_by changes noted ∙ none
  same_known changes (Err failed) none noted = known_refused failed noted

  -- ---- the calls

  pub put_goes : {T : Type 0} (path : Names) (content : Content) (result : Result T SiteFailed) → changes_of new ≡ changes_of old ++ added result (Put path content ∷ []) → GoesOn moment_of left_since old new (FileStep path (known_in new))
  put_goes path content (Ok value) noted =
      subst (λ (known : List Content). GoesOn moment_of left_since old new (FileStep path known)) (sym (known_by (Put path content ∷ []) noted))
      (by_one (FileStep path (content ∷ known_in old)) (Put path content) (λ w image. put_step (state_of old) path content w old.is_now.sound image) noted)
  put_goes path content (Err failed) noted = by_refusal (FileStep path (known_in new)) failed noted

  pub put_keeps : {T : Type 0} (path : Names) (content : Content) (result : Result T SiteFailed) → changes_of new ≡ changes_of old ++ added result (Put path content ∷ []) → Keeps (known_in old) (known_in new)
  put_keeps path content (Ok value) noted c k = subst (λ (known : List Content). IsTrue (knows known c)) (sym (known_by (Put path content ∷ []) noted)) (knows_more content (known_in old) c k)
  put_keeps path content (Err failed) noted c k = subst (λ (known : List Content). IsTrue (knows known c)) (sym (known_refused failed noted)) k

  pub remove_goes : {T : Type 0} (path : Names) (result : Result T SiteFailed) → changes_of new ≡ changes_of old ++ added result (removal (tree_in old) path) → GoesOn moment_of left_since old new (FileStep path (known_in new))
  remove_goes path (Err failed) noted = by_refusal (FileStep path (known_in new)) failed noted
  remove_goes path (Ok value) noted = gone (is_some (finite.get (tree_in old) path)) noted
    where
      gone : (there : Bool) → changes_of new ≡ changes_of old ++ (if there then Removed path ∷ [] else []) → GoesOn moment_of left_since old new (FileStep path (known_in new))
      gone true noted =
          subst (λ (known : List Content). GoesOn moment_of left_since old new (FileStep path known)) (sym (known_by (Removed path ∷ []) noted))
          (by_one (FileStep path (known_in old)) (Removed path) (λ w image. removed_step (state_of old) path w old.is_now.sound image) noted)
      gone false noted = by_none (FileStep path (known_in new)) noted

  pub remove_keeps : {T : Type 0} (path : Names) (result : Result T SiteFailed) → changes_of new ≡ changes_of old ++ added result (removal (tree_in old) path) → Keeps (known_in old) (known_in new)
  remove_keeps path (Err failed) noted = λ c k. subst (λ (known : List Content). IsTrue (knows known c)) (sym (known_refused failed noted)) k
  remove_keeps path (Ok value) noted = gone (is_some (finite.get (tree_in old) path)) noted
    where
      gone : (there : Bool) → changes_of new ≡ changes_of old ++ (if there then Removed path ∷ [] else []) → Keeps (known_in old) (known_in new)
      gone true noted c k = subst (λ (known : List Content). IsTrue (knows known c)) (sym (known_by (Removed path ∷ []) noted)) k
      gone false noted c k = subst (λ (known : List Content). IsTrue (knows known c)) (sym (known_by [] noted)) k

  pub settle_goes : {T : Type 0} (result : Result T SiteFailed) → changes_of new ≡ changes_of old ++ added result (Settled ∷ []) → GoesOn moment_of left_since old new NoStep
  settle_goes result noted = changes_by NoStep Settled result (λ w image. inl (settled_step (state_of old) w image)) noted

  pub settle_pins : {T : Type 0} (result : Result T SiteFailed) → changes_of new ≡ changes_of old ++ added result (Settled ∷ []) → OnOk result (PinsTree (left_since new (moment_of new)) (world_in old))
  settle_pins (Err failed) noted = tt
  settle_pins (Ok value) noted = λ w left.
      let image = subst (λ (s : State). IsImage s w) (state_noted (Settled ∷ []) noted) (image_now (at_first (first_of new)) (changes_of new) w left) in
      settled_pins (state_of old) w image ∙ sym old.is_now.tree

  pub sync_goes : {T : Type 0} (result : Result T SiteFailed) → changes_of new ≡ changes_of old ++ added result (Synced ∷ []) → GoesOn moment_of left_since old new NoStep
  sync_goes result noted = changes_by NoStep Synced result (λ w image. inl (synced_step (state_of old) w old.is_now.sound image)) noted

  pub sync_pins : {T : Type 0} (result : Result T SiteFailed) → changes_of new ≡ changes_of old ++ added result (Synced ∷ []) → OnOk result (PinsStore (left_since new (moment_of new)) (world_in old))
  sync_pins (Err failed) noted = tt
  sync_pins (Ok value) noted = λ w left.
      let image = subst (λ (s : State). IsImage s w) (state_noted (Synced ∷ []) noted) (image_now (at_first (first_of new)) (changes_of new) w left) in
      synced_pins (state_of old) w image ∙ sym old.is_now.store

  pub write_goes : {T : Type 0} (at : ℕ) (bytes : List ℕ) (result : Result T SiteFailed) → at ≤ length (store_in old) → changes_of new ≡ changes_of old ++ added result (Written at bytes ∷ []) → GoesOn moment_of left_since old new (WriteStep at (length bytes))
  write_goes at bytes result le noted =
      changes_by (WriteStep at (length bytes)) (Written at bytes) result
      (λ w image. inr (written_step (state_of old) at bytes w old.is_now.sound (subst (λ (l : List ℕ). at ≤ length l) old.is_now.store le) image)) noted

  pub cut_goes : {T : Type 0} (len : ℕ) (result : Result T SiteFailed) → changes_of new ≡ changes_of old ++ added result (Cut len ∷ []) → GoesOn moment_of left_since old new (CutStep len)
  cut_goes len result noted = changes_by (CutStep len) (Cut len) result (λ w image. cut_step (state_of old) len w old.is_now.sound image) noted

-- one call after another that only counted
pub noted_then : (old mid new : MemSite) (changes : List Change) → changes_of mid ≡ changes_of old ++ [] → changes_of new ≡ changes_of mid ++ changes → changes_of new ≡ changes_of old ++ changes
noted_then old mid new changes first rest = rest ∙ ap (λ (l : List Change). l ++ changes) (first ∙ append-nil (changes_of old))

pub with_any_step : (old new : MemSite) (step : World → World → Type 0) → GoesOn moment_of left_since old new NoStep → GoesOn moment_of left_since old new step
with_any_step old new step goes = record {
  later = goes.later;
  kept = goes.kept;
  since = λ t w le left. ⊎_elim (λ was. inl was) (λ follows. absurd follows.2) (goes.since t w le left);
}

pub kept_same : (old new : MemSite) → known_in new ≡ known_in old → Keeps (known_in old) (known_in new)
kept_same old new same c k = subst (λ (known : List Content). IsTrue (knows known c)) (sym same) k

-- ---- what a site is after a change

pub now_after : (first : List (Names × Content)) (xs ys : List Change) (change : Change) (files files' : Tree) (store store' : List ℕ) (faults faults' : ℕ) → IsNow first xs files store faults → Fits (after_all (at_first first) xs) change → ys ≡ xs ++ change ∷ [] → files' ≡ (after (after_all (at_first first) xs) change).world.tree → store' ≡ (after (after_all (at_first first) xs) change).world.store → faults' ≡ min (faults + failures_in change) (2 ^ 64 - 1) → IsNow first ys files' store' faults'
now_after first xs ys change files files' store store' faults faults' is fits noted tree bytes count = record {
  tree = tree ∙ sym (ap (λ (s : State). s.world.tree) state);
  store = bytes ∙ sym (ap (λ (s : State). s.world.store) state);
  faults = omega (arith, count, is.faults, ap failures noted, failures-append xs (change ∷ []));
  sound = subst IsSound (sym state) (sound_after (after_all (at_first first) xs) change is.sound fits);
}
  where
    state : after_all (at_first first) ys ≡ after (after_all (at_first first) xs) change
    state = ap (after_all (at_first first)) noted ∙ after_all-append (at_first first) xs (change ∷ [])
