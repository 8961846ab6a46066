-- Where two lists of files first differ, and what the clean build is beside which files are looked at.
use Rattle.std.proofs.Common.{◌≡◌, ◌≢◌, ℕ, ◌<◌, Bool, true, false, cond, bytes_eq, if◌then◌else◌, List, [], ◌∷◌, ◌++◌, length, append-nil, Option, None, Some, Result, Ok, Err, IsTrue, ⊎_elim, inl, inr, refl, sym, ◌∙◌, ap, subst}
use Rattle.std.specs.Result.{result_err, IfErr, IsErrAnd}
use Rattle.std.specs.Ordering.{is_eq, is_lt, eq_by_cmp, match_ordering, ordering_reverse}
use Rattle.std.specs.declared.cmp.Ordering.{Ordering}
use Rattle.std.specs.declared.cmp.Ordering.TheVariants.{Less, Equal, Greater}
use Rattle.std.specs.FinMap as finite
use Rattle.std.specs.FinMap.Entries.{below_all}
use Rattle.std.proofs.lemmas.Bool.{false≢true, and_parts, and_from}
use Rattle.std.proofs.lemmas.Option.{none-some, same_Some, slice_get_within}
use Rattle.tup_path.specs.Name.{Names, Content}
use Rattle.tup_path.specs.Order.{by_names, same_path, by_names-total, by_names-antisymmetric}
use Rattle.tup_path.specs.Tree.{Tree}
use Rattle.tup_path.proofs.Same.{same_path-decides, same_bytes-decides, by_names-decides}
use Rattle.tup_site.specs.World.{World}
use Rattle.tup_compare.specs.Holding.{Holding, HoldsOn, Shows}
use Rattle.tup_site.specs.declared.fault.SiteFailed.{SiteFailed}
use Rattle.tup_site.specs.declared.fault.SiteFailed.TheVariants.{Fault, TooLarge, Memory}
use Rattle.tup_rule.specs.declared.rule.Rule.{Rule}
use Rattle.tup_runner.specs.Next.{Next}
use Rattle.tup_access.specs.declared.verdict.Verdict.TheVariants.{Good}
use Rattle.tup_clean.specs.AnyOrder.{IsWhole}
use Rattle.tup_clean.specs.Buildable.{IsBuildable}
use Rattle.tup_clean.specs.Clean.{clean, first_ready, succeeds}
use Rattle.tup_clean.specs.Ran.{commands, RunsFront}
use Rattle.tup_clean.proofs.Agreeing.{make_apart}
use Rattle.tup_clean.proofs.MayTake.{first_may}
use Rattle.tup_clean.proofs.OneBuild.{clean_taken, clean_whole}
use Rattle.tup_clean.proofs.Places.{some_place}
use Rattle.tup_clean.proofs.Standing.{ready_stands}
use Rattle.tup_clean.proofs.Whole.{good_is}
use Rattle.tup_clean.proofs.Turns.{all_are_good, is_the_good, succeeds_all}
use Rattle.tup_compare.proofs.Reading.{from_T, source_is}
use Rattle.tup_compare.specs.Compared.{AreCompared, HasCompared, HasBuilt, BuildsWell, BuildsAlike, IsGoodBuild, NoneIsBad, RunsBuildOf, RunsIt, RunsToCompare, compared_at, difference, first_of, same_file}
use Rattle.tup_promise.specs.Blamed.{HasFileOf}
use Rattle.tup_compare.specs.Found.{IsUnread}
use Rattle.tup_compare.specs.Opened.{NoDamage}
use Rattle.tup_compare.proofs.Held.{shown_before}
use Rattle.tup_compare.specs.Sources.{AsksFor, build, sources}
use Rattle.tup_compare.specs.Stopped.{stop_of}
use Rattle.tup_compare.specs.declared.compare.Compared.{Compared}
use Rattle.tup_promise.specs.declared.stop.Stop.{Stop}
use Rattle.tup_promise.specs.declared.stop.Stop.TheVariants.{NoStore, BadStore, Sources, UserFile, Bad, Run, Full, Outside}
use Rattle.tup_compare.specs.declared.unread.Unread.{Unread}
use Rattle.tup_compare.specs.declared.unread.Unread.TheVariants.{Sources as NoRules, Outside as Unlucky}

abbrev Entries : Type 0
Entries = List (Names × Content)

-- ---- looking into a sorted list

less_is : (o : Ordering) → is_lt o ≡ true → o ≡ Less
less_is Less e = refl
less_is Equal e = absurd (false≢true e)
less_is Greater e = absurd (false≢true e)

tail_sorted : (file : Names × Content) (files : Entries) → finite.is_sorted by_names (file ∷ files) ≡ true → finite.is_sorted by_names files ≡ true
tail_sorted file files up = (and_parts (below_all by_names file.0 files) _ up).1

head_below : (file : Names × Content) (files : Entries) → finite.is_sorted by_names (file ∷ files) ≡ true → below_all by_names file.0 files ≡ true
head_below file files up = (and_parts (below_all by_names file.0 files) _ up).0

-- what comes before all of a list isn't in it
below_absent : (path : Names) (files : Entries) → below_all by_names path files ≡ true → finite.find by_names path files ≡ None
below_absent path [] below = refl
below_absent path (file ∷ files) below =
    let parts = and_parts (is_lt (by_names path file.0)) (below_all by_names path files) below in
    ap (λ (b : Bool). cond b (Some file.1) (finite.find by_names path files)) (ap is_eq (less_is (by_names path file.0) parts.0)) ∙ below_absent path files parts.1

lower : (earlier path : Names) (files : Entries) → by_names earlier path ≡ Less → below_all by_names path files ≡ true → below_all by_names earlier files ≡ true
lower earlier path [] less below = refl
lower earlier path (file ∷ files) less below =
    let parts = and_parts (is_lt (by_names path file.0)) (below_all by_names path files) below in
    and_from (is_lt (by_names earlier file.0)) (below_all by_names earlier files)
    (ap is_lt (by_names-total.trans earlier path file.0 less (less_is (by_names path file.0) parts.0))) (lower earlier path files less parts.1)

before_absent : (earlier : Names) (file : Names × Content) (files : Entries) → by_names earlier file.0 ≡ Less → finite.is_sorted by_names (file ∷ files) ≡ true →
    finite.find by_names earlier (file ∷ files) ≡ None
before_absent earlier file files less up =
    ap (λ (b : Bool). cond b (Some file.1) (finite.find by_names earlier files)) (ap is_eq less)
    ∙ below_absent earlier files (lower earlier file.0 files less (head_below file files up))

found_first : (file : Names × Content) (files : Entries) → finite.find by_names file.0 (file ∷ files) ≡ Some file.1
found_first file files = ap (λ (b : Bool). cond b (Some file.1) (finite.find by_names file.0 files)) ((by_names-decides file.0 file.0).1 refl)

turned : (one other : Names) → by_names one other ≡ Greater → by_names other one ≡ Less
turned one other more = by_names-total.antisymm other one ∙ ap ordering_reverse more

-- ---- the first difference

record DifferAt (one other : Entries) (path : Names) : Type 0 where
  pub differ : finite.find by_names path one ≢ finite.find by_names path other
  pub before : (earlier : Names) → by_names earlier path ≡ Less → finite.find by_names earlier one ≡ finite.find by_names earlier other

-- at the first file of a list
at_one : (file : Names × Content) (one other : Entries) → finite.is_sorted by_names (file ∷ one) ≡ true → finite.find by_names file.0 other ≡ None →
    ((earlier : Names) → by_names earlier file.0 ≡ Less → finite.find by_names earlier other ≡ None) → DifferAt (file ∷ one) other file.0
at_one file one other up absent before = record {
  differ = λ e. none-some file.1 (sym absent ∙ sym e ∙ found_first file one);
  before = λ earlier less. before_absent earlier file one less up ∙ sym (before earlier less);
}

other_way : (one other : Entries) (path : Names) → DifferAt one other path → DifferAt other one path
other_way one other path at = record { differ = λ e. at.differ (sym e); before = λ earlier less. sym (at.before earlier less) }

-- behind the same file
behind : (here there : Names × Content) (one other : Entries) (path : Names) → here.0 ≡ there.0 → here.1 ≡ there.1 → finite.is_sorted by_names (here ∷ one) ≡ true → finite.is_sorted by_names (there ∷ other) ≡ true →
    DifferAt one other path → DifferAt (here ∷ one) (there ∷ other) path
behind here there one other path same content up also at = record {
  differ = λ e. by (eq_by_cmp by_names path here.0) refl e;
  before = λ earlier less.
      (λ i. cond (eq_by_cmp by_names earlier (same i)) (Some (content i)) (at.before earlier less i));
}
  where
    absent_one : path ≡ here.0 → finite.find by_names path one ≡ None
    absent_one is = ap (λ (p : Names). finite.find by_names p one) is ∙ below_absent here.0 one (head_below here one up)

    absent_other : path ≡ here.0 → finite.find by_names path other ≡ None
    absent_other is = ap (λ (p : Names). finite.find by_names p other) (is ∙ same) ∙ below_absent there.0 other (head_below there other also)

    by : (b : Bool) → eq_by_cmp by_names path here.0 ≡ b → finite.find by_names path (here ∷ one) ≡ finite.find by_names path (there ∷ other) → ⊥
    by true ties e =
        let is = (by_names-decides path here.0).0 ties in
        at.differ (absent_one is ∙ sym (absent_other is))
    by false apart e =
        at.differ
        (sym (ap (λ (b : Bool). cond b (Some here.1) (finite.find by_names path one)) apart)
        ∙ e ∙ ap (λ (b : Bool). cond b (Some there.1) (finite.find by_names path other)) (ap (eq_by_cmp by_names path) (sym same) ∙ apart))

-- at two files that aren't the same
apart_at : (here there : Names × Content) (one other : Entries) → same_file here there ≡ false → finite.is_sorted by_names (here ∷ one) ≡ true → finite.is_sorted by_names (there ∷ other) ≡ true →
    DifferAt (here ∷ one) (there ∷ other) (first_of here.0 there.0)
apart_at here there one other apart up also = by (by_names there.0 here.0) refl
  where
    by : (o : Ordering) → by_names there.0 here.0 ≡ o → DifferAt (here ∷ one) (there ∷ other) (match_ordering (by_names there.0 here.0) there.0 here.0 here.0)
    by Less less =
        subst (DifferAt (here ∷ one) (there ∷ other)) (sym (ap (λ (o : Ordering). match_ordering o there.0 here.0 here.0) less))
        (other_way (there ∷ other) (here ∷ one) there.0
        (at_one there other (here ∷ one) also (before_absent there.0 here one less up)
        (λ earlier lesser. before_absent earlier here one (by_names-total.trans earlier there.0 here.0 lesser less) up)))
    by Greater more =
        let less = turned there.0 here.0 more in
        subst (DifferAt (here ∷ one) (there ∷ other)) (sym (ap (λ (o : Ordering). match_ordering o there.0 here.0 here.0) more))
        (at_one here one (there ∷ other) up (before_absent here.0 there other less also)
        (λ earlier lesser. before_absent earlier there other (by_names-total.trans earlier here.0 there.0 lesser less) also))
    by Equal ties =
        let same : there.0 ≡ here.0 = by_names-antisymmetric there.0 here.0 ties in
        subst (DifferAt (here ∷ one) (there ∷ other)) (sym (ap (λ (o : Ordering). match_ordering o there.0 here.0 here.0) ties))
        (record {
          differ = λ e. false≢true (sym apart ∙ and_from (same_path here.0 there.0) (bytes_eq here.1 there.1) ((same_path-decides here.0 there.0).1 (sym same))
              ((same_bytes-decides here.1 there.1).1
              (same_Some here.1 there.1 (sym (found_first here one) ∙ e ∙ ap (λ (p : Names). finite.find by_names p (there ∷ other)) (sym same) ∙ found_first there other))));
          before = λ earlier lesser.
              before_absent earlier here one lesser up
              ∙ sym (before_absent earlier there other (ap (by_names earlier) same ∙ lesser) also);
        })

-- the first difference of two sorted lists
differ_at : (one other : Entries) (path : Names) → finite.is_sorted by_names one ≡ true → finite.is_sorted by_names other ≡ true → difference one other ≡ Some path → DifferAt one other path
differ_at [] [] path up also is = absurd (none-some path is)
differ_at (file ∷ one) [] path up also is =
    subst (DifferAt (file ∷ one) []) (same_Some file.0 path is) (at_one file one [] up refl (λ earlier less. refl))
differ_at [] (file ∷ other) path up also is =
    subst (DifferAt [] (file ∷ other)) (same_Some file.0 path is) (other_way (file ∷ other) [] file.0 (at_one file other [] also refl (λ earlier less. refl)))
differ_at (here ∷ one) (there ∷ other) path up also is =
    by (λ e. differ_at one other path (tail_sorted here one up) (tail_sorted there other also) e) (same_file here there) refl
  where
    by : (difference one other ≡ Some path → DifferAt one other path) → (b : Bool) → same_file here there ≡ b → DifferAt (here ∷ one) (there ∷ other) path
    by rest true same =
        let parts = and_parts (same_path here.0 there.0) (bytes_eq here.1 there.1) same in
        behind here there one other path ((same_path-decides here.0 there.0).0 parts.0) ((same_bytes-decides here.1 there.1).0 parts.1) up also
        (rest (sym (ap (λ (b : Bool). if b then difference one other else Some (first_of here.0 there.0)) same) ∙ is))
    by rest false apart =
        subst (DifferAt (here ∷ one) (there ∷ other))
        (same_Some (first_of here.0 there.0) path (sym (ap (λ (b : Bool). if b then difference one other else Some (first_of here.0 there.0)) apart) ∙ is))
        (apart_at here there one other apart up also)

-- lists that don't differ are one
same_lists : (one other : Entries) → difference one other ≡ None → one ≡ other
same_lists [] [] is = refl
same_lists (file ∷ one) [] is = absurd (none-some file.0 (sym is))
same_lists [] (file ∷ other) is = absurd (none-some file.0 (sym is))
same_lists (here ∷ one) (there ∷ other) is = by (λ e. same_lists one other e) (same_file here there) refl
  where
    by : (difference one other ≡ None → one ≡ other) → (b : Bool) → same_file here there ≡ b → here ∷ one ≡ there ∷ other
    by more true same =
        let parts = and_parts (same_path here.0 there.0) (bytes_eq here.1 there.1) same in
        let path = (same_path-decides here.0 there.0).0 parts.0 in
        let content = (same_bytes-decides here.1 there.1).0 parts.1 in
        let rest = more (sym (ap (λ (b : Bool). if b then difference one other else Some (first_of here.0 there.0)) same) ∙ is) in
        λ i. (path i, content i) ∷ rest i
    by more false apart = absurd (none-some (first_of here.0 there.0) (sym (sym (ap (λ (b : Bool). if b then difference one other else Some (first_of here.0 there.0)) apart) ∙ is)))

-- how two trees compare, by their entries
pub compared_are : (one other : Tree) → AreCompared one other (compared_at (difference (finite.entries one) (finite.entries other)))
compared_are one other = by (difference (finite.entries one) (finite.entries other)) refl
  where
    up : (tree : Tree) → finite.is_sorted by_names (finite.entries tree) ≡ true
    up tree = from_T (finite.is_sorted by_names (finite.entries tree)) (finite.entries_sorted tree)

    by : (found : Option Names) → difference (finite.entries one) (finite.entries other) ≡ found → AreCompared one other (compared_at (difference (finite.entries one) (finite.entries other)))
    by None is =
        subst (λ (f : Option Names). AreCompared one other (compared_at f)) (sym is)
        (finite.same_entries_map one other (same_lists (finite.entries one) (finite.entries other) is))
    by (Some path) is =
        let at = differ_at (finite.entries one) (finite.entries other) path (up one) (up other) is in
        subst (λ (f : Option Names). AreCompared one other (compared_at f)) (sym is)
        (record {
          differ = λ e. at.differ (sym (finite.get-entries one path) ∙ e ∙ finite.get-entries other path);
          before = λ earlier less. finite.get-entries one earlier ∙ at.before earlier less ∙ sym (finite.get-entries other earlier);
        })

-- ---- a clean build in which no rule is bad succeeds

module _ (next : Next) (rules : List Rule) (sources : Tree) (buildable : IsBuildable sources rules) where
  whole : IsWhole next rules sources (clean next rules sources)
  whole = clean_whole next rules sources (make_apart sources rules buildable)

  -- none is ready any more
  none_ready_more : first_ready rules (clean next rules sources).verdicts ≡ None
  none_ready_more = by (first_ready rules (clean next rules sources).verdicts) refl
    where
      by : (o : Option ℕ) → first_ready rules (clean next rules sources).verdicts ≡ o → first_ready rules (clean next rules sources).verdicts ≡ None
      by None none = none
      by (Some at) ready =
          let stands = ready_stands rules (clean next rules sources).verdicts at ready in
          absurd ((clean_taken next rules sources).over at stands.0
          (first_may rules (clean next rules sources) at stands.0
          (record { behind = λ place reader here good. whole.ready place reader Good here (good_is (clean next rules sources).verdicts place good) }) ready stands.1))

  pub good_succeeds : NoneIsBad rules (clean next rules sources).verdicts → IsTrue (succeeds (clean next rules sources))
  good_succeeds good =
      succeeds_all (length rules) (clean next rules sources)
      (all_are_good rules (clean next rules sources).verdicts whole.many
      (λ at outcome has.
      let rule = some_place rules at (subst (λ (n : ℕ). at < n) whole.many (slice_get_within (clean next rules sources).verdicts at (Some outcome) has)) in
      is_the_good outcome (good at rule.0 outcome rule.1 has)) buildable.none_waits none_ready_more)

-- ---- what a comparison comes to

-- all was run, so a front was
pub all_is_front : (all old new : List (Names × List ℕ)) → new ≡ old ++ all → RunsFront all old new
all_is_front all old new ran = (all, [], append-nil all, ran)

module _ (next : Next) (w : World) where
  -- where the sources can't be read, or ask for no rules
  pub unread_compared : (unread : Unread) → IsUnread w unread → HasCompared next w (Err (stop_of unread))
  unread_compared (NoRules fault) why = why
  unread_compared (Unlucky Fault) why = tt
  unread_compared (Unlucky (TooLarge n)) (held, shows, (path, large)) = (path, source_is held w shows path n large)
  unread_compared (Unlucky Memory) why = tt

  -- where the outside stops it behind the build, all of it was run
  pub runs_on : (old new : List (Names × List ℕ)) (failed : SiteFailed) → RunsToCompare next w old new None → RunsToCompare next w old new (Some (Outside failed))
  runs_on old new failed runs = inr (record { held = runs.held; shows = runs.shows; rules = runs.rules; asked = runs.asked; ran = all_is_front (commands next runs.rules (sources runs.held)) old new runs.ran })

  pub built_err : (result : Result Entries Stop) (stop : Stop) → IsErrAnd result (λ e. e ≡ stop) → HasCompared next w (Err stop) → HasBuilt next w result
  built_err (Ok files) stop is has = absurd is
  built_err (Err given) stop is has = subst (λ (s : Stop). HasCompared next w (Err s)) (sym is) has

  -- the clean build of rules that the sources ask for
  pub built_compared : (held : Holding) (rules : List Rule) (sorted : Tree) (result : Result Entries Stop) → Shows w held → AsksFor held rules → IsBuildable (sources held) rules → sorted ≡ sources held →
      IsGoodBuild rules (clean next rules sorted) result → HasBuilt next w result
  built_compared held rules sorted result shows asked buildable same is =
      by result (subst (λ (t : Tree). IsGoodBuild rules (clean next rules t) result) same is)
    where
      by : (r : Result Entries Stop) → IsGoodBuild rules (clean next rules (sources held)) r → HasBuilt next w r
      by (Ok files) (good, are) = record { held = held; shows = shows; rules = rules; asked = asked; buildable = buildable; clean = good_succeeds next rules (sources held) buildable good; are = are }
      by (Err (Bad name verdict)) first = record { held = held; shows = shows; rules = rules; asked = asked; first = first }
      by (Err NoStore) never = absurd never
      by (Err (BadStore offset)) never = absurd never
      by (Err (Sources fault)) never = absurd never
      by (Err (UserFile path written found)) never = absurd never
      by (Err Run) is = tt
      by (Err Full) never = absurd never
      by (Err (Outside Fault)) is = tt
      by (Err (Outside (TooLarge n))) is = absurd (cc is)
      by (Err (Outside Memory)) is = tt

  -- and what was run of it
  pub built_runs : (held : Holding) (rules : List Rule) (sorted : Tree) (old new : List (Names × List ℕ)) (result : Result Entries Stop) → Shows w held → AsksFor held rules → sorted ≡ sources held → IsGoodBuild rules (clean next rules sorted) result →
      RunsBuildOf (commands next rules sorted) old new (result_err result) → RunsToCompare next w old new (result_err result)
  built_runs held rules sorted old new result shows asked same is runs =
      by result is (subst (λ (t : Tree). RunsBuildOf (commands next rules t) old new (result_err result)) same runs)
    where
      by : (r : Result Entries Stop) → IsGoodBuild rules (clean next rules sorted) r → RunsBuildOf (commands next rules (sources held)) old new (result_err r) → RunsToCompare next w old new (result_err r)
      by (Ok files) is ran = record { held = held; shows = shows; rules = rules; asked = asked; ran = ran }
      by (Err (Bad name verdict)) is ran = record { held = held; shows = shows; rules = rules; asked = asked; ran = ran }
      by (Err NoStore) never ran = absurd never
      by (Err (BadStore offset)) never ran = absurd never
      by (Err (Sources fault)) never ran = absurd never
      by (Err (UserFile path written found)) never ran = absurd never
      by (Err Full) never ran = absurd never
      by (Err Run) is ran = record { held = held; shows = shows; rules = rules; asked = asked; ran = ran }
      by (Err (Outside failed)) is ran = inr (record { held = held; shows = shows; rules = rules; asked = asked; ran = ran })

  -- the files beside those of a build that succeeds
  pub compared_alike : (files built : Entries) (compared : Compared) → BuildsWell next w built → files ≡ finite.entries w.tree → compared ≡ compared_at (difference files built) → BuildsAlike next w compared
  compared_alike files built compared well are is = let of_held : files ≡ finite.entries well.held.tree = are ∙ ap (λ (t : Tree). finite.entries t) (sym well.shows.tree) in record {
    held = well.held;
    shows = well.shows;
    rules = well.rules;
    asked = well.asked;
    clean = well.clean;
    alike =
        subst (AreCompared well.held.tree (build next well.rules well.held).tree) (sym (is ∙ (λ i. compared_at (difference (of_held i) (well.are i)))))
        (compared_are well.held.tree (build next well.rules well.held).tree);
  }

-- ---- a comparison of the world behind the opening of its store is one of the world before it

module _ (next : Next) (old mid : World) (on : HoldsOn old mid) where
  pub compared_before : (result : Result Compared Stop) → IfErr result NoDamage → HasCompared next mid result → HasCompared next old result
  compared_before (Ok compared) opened has = record { held = has.held; shows = shown_before old mid on has.held has.shows; rules = has.rules; asked = has.asked; clean = has.clean; alike = has.alike }
  compared_before (Err NoStore) opened has = absurd opened
  compared_before (Err (BadStore offset)) opened has = absurd opened
  compared_before (Err (Sources fault)) opened has = (has.0, shown_before old mid on has.0 has.1, has.2)
  compared_before (Err (UserFile path written found)) opened has = has
  compared_before (Err (Bad name verdict)) opened has = record { held = has.held; shows = shown_before old mid on has.held has.shows; rules = has.rules; asked = has.asked; first = has.first }
  compared_before (Err Run) opened has = tt
  compared_before (Err Full) opened has = has
  compared_before (Err (Outside Fault)) opened has = tt
  compared_before (Err (Outside (TooLarge n))) opened has = subst (HasFileOf n) on.tree has
  compared_before (Err (Outside Memory)) opened has = tt

  module _ (before now : List (Names × List ℕ)) where
    it_before : (stopped : Option Stop) → RunsIt next mid before now stopped → RunsIt next old before now stopped
    it_before stopped runs = record { held = runs.held; shows = shown_before old mid on runs.held runs.shows; rules = runs.rules; asked = runs.asked; ran = runs.ran }

    pub runs_before : (stopped : Option Stop) → RunsToCompare next mid before now stopped → RunsToCompare next old before now stopped
    runs_before None runs = it_before None runs
    runs_before (Some NoStore) runs = runs
    runs_before (Some (BadStore offset)) runs = runs
    runs_before (Some (Sources fault)) runs = runs
    runs_before (Some (UserFile path written found)) runs = runs
    runs_before (Some (Bad name verdict)) runs = it_before (Some (Bad name verdict)) runs
    runs_before (Some Run) runs = it_before (Some Run) runs
    runs_before (Some Full) runs = runs
    runs_before (Some (Outside failed)) runs = ⊎_elim inl (λ it. inr (it_before (Some (Outside failed)) it)) runs
