-- A crew of which the first runners worked, and the others stood behind.
use Rattle.std.proofs.Common.{◌≡◌, ℕ, ◌+◌, ◌-◌, ◌<◌, ◌≤◌, List, [], ◌∷◌, ◌++◌, drop, length, map, reverse, take, Option, None, Some, inl, refl, sym, ap, subst, ◌∙◌, arith}
use Rattle.std.proofs.lemmas.List.{append-nil, length-append, length-drop, length-reverse, length-take-le, map-append, reverse-reverse, take-append-drop}
use Rattle.std.proofs.lemmas.List.Elements.{All-nil}
use Rattle.std.proofs.Math.Seq.{drop-append_seam, take-append_seam}
use Rattle.tup_path.specs.Name.{Names}
use Rattle.tup_rule.specs.declared.rule.RuleName.{RuleName}
use Rattle.tup_site.specs.declared.fault.SiteFailed.TheVariants.{Memory as NoMemory}
use Rattle.tup_promise.specs.Ran.{CrewRuns}
use Rattle.tup_promise.specs.declared.stop.Stop.TheVariants.{Outside}
use Rattle.tup_top.specs.Order.{used_of}
use Rattle.tup_top.specs.Promise.{HasCrewCause}
use Rattle.tup_top.specs.declared.status.Status.{Status}
use Rattle.tup_top.proofs.Crewed.{some_of_crew}

-- as many worked as were to
pub is_long : {R : Type 0} (crew worked : List R) (jobs : ℕ) → jobs ≤ length crew → worked ≡ take jobs crew → length worked ≡ jobs
is_long crew worked jobs fits kept = ap length kept ∙ length-take-le jobs crew fits

-- so many stand apart
pub apart_long : {R : Type 0} (crew apart : List R) (jobs : ℕ) → apart ≡ reverse (drop jobs crew) → length apart ≡ length crew - jobs
apart_long crew apart jobs rest = ap length rest ∙ (length-reverse (drop jobs crew) ∙ length-drop jobs crew)

module _ {R : Type 0} (crew worked apart now whole : List R) (jobs : ℕ) (fits : jobs ≤ length crew) (kept : worked ≡ take jobs crew) (rest : apart ≡ reverse (drop jobs crew))
    (many : length now ≡ length worked) (joined : whole ≡ now ++ reverse apart) where
  behind : whole ≡ now ++ drop jobs crew
  behind = joined ∙ ap (λ (l : List R). now ++ l) (ap reverse rest ∙ reverse-reverse (drop jobs crew))

  now_long : length now ≡ jobs
  now_long = many ∙ is_long crew worked jobs fits kept

  pub first_now : take jobs whole ≡ now
  first_now = ap (take jobs) behind ∙ (ap (λ (n : ℕ). take n (now ++ drop jobs crew)) (sym now_long) ∙ take-append_seam now (drop jobs crew))

  pub others_now : drop jobs whole ≡ drop jobs crew
  others_now = ap (drop jobs) behind ∙ (ap (λ (n : ℕ). drop n (now ++ drop jobs crew)) (sym now_long) ∙ drop-append_seam now (drop jobs crew))

  as_parted : crew ≡ worked ++ drop jobs crew
  as_parted = sym (ap (λ (l : List R). l ++ drop jobs crew) kept ∙ take-append-drop jobs crew)

  pub as_many : length whole ≡ length crew
  as_many = ap length behind ∙ (length-append now (drop jobs crew) ∙ (ap (λ (n : ℕ). n + length (drop jobs crew)) many ∙ (sym (length-append worked (drop jobs crew)) ∙ sym (ap length as_parted))))

  -- what those that worked count, the crew counts
  pub counted_by : (count : R → ℕ) (site_before site_now sink_before sink_now : ℕ) (status : Status) →
      HasCrewCause (length worked) (record { site = site_before; runners = map count worked; sink = sink_before }) (record { site = site_now; runners = map count now; sink = sink_now }) status →
      HasCrewCause jobs (record { site = site_before; runners = map count crew; sink = sink_before }) (record { site = site_now; runners = map count whole; sink = sink_now }) status
  counted_by count site_before site_now sink_before sink_now status cause =
      let more = some_of_crew site_before site_now (map count worked) (map count now) sink_before sink_now (map count (drop jobs crew)) (length worked) status cause in
      let old = ap (map count) as_parted ∙ map-append count worked (drop jobs crew) in
      let new = ap (map count) behind ∙ map-append count now (drop jobs crew) in
      subst (λ (n : ℕ). HasCrewCause n (record { site = site_before; runners = map count crew; sink = sink_before }) (record { site = site_now; runners = map count whole; sink = sink_now }) status) (is_long crew worked jobs fits kept)
      (subst (λ (l : List ℕ). HasCrewCause (length worked) (record { site = site_before; runners = l; sink = sink_before }) (record { site = site_now; runners = map count whole; sink = sink_now }) status) (sym old)
      (subst (λ (l : List ℕ). HasCrewCause (length worked) (record { site = site_before; runners = map count worked ++ map count (drop jobs crew); sink = sink_before }) (record { site = site_now; runners = l; sink = sink_now }) status) (sym new) more))

-- of an update that began no rule no runner was given one
pub no_runs : (lists : List (List (Names × List ℕ))) (ran : List RuleName) → ran ≡ [] → CrewRuns ran lists lists (Some (Outside NoMemory))
no_runs lists ran none = subst (λ (names : List RuleName). CrewRuns names lists lists (Some (Outside NoMemory))) (sym none) (record {
  many = refl;
  seats = [];
  each = refl;
  below = All-nil _;
  shares = λ seat old new stood stands. inl (stands_same old new (sym stands ∙ stood));
  alone = λ old new one same. inl (first_same old new (sym same ∙ one));
})
  where
    stands_same : (old new : List (Names × List ℕ)) → Some new ≡ Some old → new ≡ old ++ []
    stands_same old new same = let is : new ≡ old = cc same in is ∙ sym (append-nil old)

    first_same : (old new : List (Names × List ℕ)) → new ∷ [] ≡ old ∷ [] → new ≡ old ++ []
    first_same old new same = let is : new ≡ old = cc same in is ∙ sym (append-nil old)

-- an update uses a runner, and no more than there are
pub used_fits : (jobs : Option ℕ) (many : ℕ) → 0 < many → (0 < used_of jobs many) × (used_of jobs many ≤ many)
used_fits None many some = (some, omega arith)
used_fits (Some jobs) many some = (omega arith, omega (arith, some))
