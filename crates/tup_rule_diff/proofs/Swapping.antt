-- The graph that a swap leaves.
use Rattle.std.specs.Prelude.{◌≡◌, ◌⊎◌, ◌↔◌, ◌<◌, ℕ, Bool, true, false, cond, List, [], ◌∷◌, Option, None, Some, Contains, fold, map, length, option_map, slice_get, take, is_some, unwrap_or}
use Rattle.std.proofs.Common.{refl, sym, ap, subst, ◌∙◌, inl, inr}
use Rattle.std.proofs.lemmas.Bool.{true≢false}
use Rattle.std.specs.Ordering.{nat_cmp, MatchOrdering}
use Rattle.std.specs.declared.cmp.Ordering.{Ordering}
use Rattle.std.specs.declared.cmp.Ordering.TheVariants.{Less, Equal, Greater}
use Rattle.std.specs.Cmp.{nat_cmp_total, ranks}
use Rattle.std.specs.List.{AllByRecursion, IsDistinct}
use Rattle.std.specs.FinMap as finite
use Rattle.std.specs.FinMap.{nat_cmp-IsAntisymmetric, find}
use Rattle.tup_path.specs.Name.{Names}
use Rattle.tup_path.specs.Order.{by_names, by_names-total, by_names-antisymmetric, same_path, same_path-by_names}
use Rattle.tup_path.proofs.Same.{by_names-decides}
use Rattle.tup_rule.specs.Rule.{among, maker}
use Rattle.tup_rule.specs.declared.question.Reading.{Reading}
use Rattle.tup_rule.specs.declared.rule.Rule.{Rule}
use Rattle.tup_record.specs.declared.owned.OwnedState.TheVariants.{Never}
use Rattle.tup_record.specs.declared.run.RunRecord.{RunRecord}
use Rattle.tup_graph.specs.declared.edit.Edit.{Edit}
use Rattle.tup_graph.specs.declared.owned.Owned.{Owned}
use Rattle.tup_graph.specs.Above.{IsAbove}
use Rattle.tup_graph.specs.Edits.{edited_by}
use Rattle.tup_graph.specs.Graph.{GraphState, is_flagged}
use Rattle.tup_graph.specs.Kept.{IsRuleAt}
use Rattle.tup_graph.specs.Swap.{WasAt, IsPlaced, IsSwapped, IsFlaggedYet, ReadsNew, owned_now, reading_now}
use Rattle.tup_graph.proofs.Keeping.{get_removed}
use Rattle.tup_readers.proofs.Entries.{in_front, behind_front, front_or_behind, none_in}
use Rattle.tup_closure.proofs.Members.{number-decides}
use Rattle.tup_closure.proofs.Stepping.{above_as}
use Rattle.tup_rule_diff.specs.Edits.{AreSwapEdits, IsRunNow, IsToRun, place_behind, dir_of}
use Rattle.tup_rule_diff.proofs.Puts.{Once, all_put, first_or, get_put, put_news, put_one, put_there, there_put}
use Rattle.tup_scan_diff.proofs.Editing.{found_entry}
use Rattle.tup_rule_diff.proofs.Leaving.{led_graph, led_is, left, left_kept, none_left, place_at, places_behind, readings_after, runs_after, swapped, swap_leaves, tagged}

-- ---- readings
none_same : (dir : Names) (fresh : List (Names × Reading)) → AllByRecursion (λ (other : Names). same_path dir other ≡ false) (map dir_of fresh) → find by_names dir fresh ≡ None
none_same dir [] all = refl
none_same dir (one ∷ fresh) all =
    ap (λ (b : Bool). cond b (Some one.1) (find by_names dir fresh)) (sym (same_path-by_names dir one.0) ∙ all.0) ∙ none_same dir fresh all.1

read_once : (fresh : List (Names × Reading)) → IsDistinct same_path (map dir_of fresh) → Once by_names-total by_names-antisymmetric by_names-decides fresh
unfolding IsDistinct
read_once [] once = tt
read_once (one ∷ fresh) once = (none_same one.0 fresh once.0, read_once fresh once.1)

abbrev chosen : Option Reading → Bool → Option Reading → Option Reading
chosen fresh lost kept = elim fresh [
  | Some reading ↦ Some reading
  | None ↦ elim lost [ true ↦ None | false ↦ kept ]
]

by_found : (fresh : Option Reading) (lost : Bool) (kept : Option Reading) → first_or by_names-total by_names-antisymmetric by_names-decides fresh (cond lost None kept) ≡ chosen fresh lost kept
by_found (Some reading) lost kept = refl
by_found None true kept = refl
by_found None false kept = refl

pub reading_after : (g : GraphState) (fresh : List (Names × Reading)) (gone : List Names) → IsDistinct same_path (map dir_of fresh) → (dir : Names) → finite.get (readings_after g fresh gone) dir ≡ reading_now g fresh gone dir
reading_after g fresh gone once dir =
    get_put by_names-total by_names-antisymmetric by_names-decides fresh (read_once fresh once) (fold finite.remove g.readings gone) dir
    ∙ ap (first_or by_names-total by_names-antisymmetric by_names-decides (find by_names dir fresh)) (get_removed gone g.readings dir)
    ∙ by_found (find by_names dir fresh) (among dir gone) (finite.get g.readings dir)
    ∙ ap (λ (found : Option Reading). chosen found (among dir gone) (finite.get g.readings dir)) (sym (finite.get-from_entries by_names-total fresh dir))

-- ---- places
one_value : {X : Type 0} (x y : X) → Some x ≡ Some y → x ≡ y
one_value x y e = cc

no_value : {X : Type 0} (x : X) → None ≡ Some x → ⊥
no_value x e = cc

pub placed : (rules : List Rule) (n p : ℕ) → (slice_get (places_behind [] rules) n ≡ Some p) ↔ IsPlaced rules n p
placed rules n p = (λ e. to (slice_get rules n) refl (sym (place_at [] rules n) ∙ e), from)
  where
    to : (found : Option Rule) → slice_get rules n ≡ found → option_map (λ (rule : Rule). place_behind (take n rules) rule) found ≡ Some p → IsPlaced rules n p
    to (Some rule) here e = (rule, here, sym (one_value (place_behind (take n rules) rule) p e))
    to None here e = absurd (no_value p e)

    from : IsPlaced rules n p → slice_get (places_behind [] rules) n ≡ Some p
    from (rule, here, is) = place_at [] rules n ∙ ap (option_map (λ (other : Rule). place_behind (take n rules) other)) here ∙ ap Some (sym is)

-- ---- runs
pub one_before : (g : GraphState) (rule : Rule) (m n : ℕ) → WasAt g rule m → WasAt g rule n → m ≡ n
one_before g rule m n first second = by (nat_cmp m n) (ranks m n)
  where
    by : (o : Ordering) → MatchOrdering o (m < n) (m ≡ n) (n < m) → m ≡ n
    by Less less = absurd (second.1 m less first.0)
    by Equal same = same
    by Greater more = absurd (first.1 n more second.0)

-- ---- owned paths stay owned
abbrev is_owned_so : Option Owned → Bool
is_owned_so found = is_some found

always : (m : Option ℕ) (one : Owned) → is_owned_so (elim m [
  | Some number ↦ Some (record { maker = Some number; state = unwrap_or (option_map (λ (owned : Owned). owned.state) (Some one)) Never })
  | None ↦ option_map (λ (owned : Owned). record { maker = None; state = owned.state }) (Some one)
]) ≡ true
always (Some number) one = refl
always None one = refl

was_none : (rules : List Rule) (path : Names) (before : Option Owned) → owned_now rules path before ≡ None → before ≡ None
was_none rules path None e = refl
was_none rules path (Some one) e = absurd (true≢false (sym (always (maker path rules) one) ∙ ap is_owned_so e))

module _ (g : GraphState) (fresh : List (Names × Reading)) (gone : List Names) (rules : List Rule) (edits : List Edit) (are : AreSwapEdits g fresh gone rules edits) where
  pub kept_come : (number : ℕ) → are.kept number ≡ true → finite.get (runs_after are.runs) number ≡ None → ⊥
  kept_come number is none =
      let now = (are.kept_are number).0 is in
      let there = there_put nat_cmp_total nat_cmp-IsAntisymmetric number-decides are.runs finite.empty number now.0 ((are.runs_are number now.0).1 now.1) in
      no_value there.0 (sym none ∙ there.1)

  pub owned_come : (path : Names) → finite.get are.owned path ≡ None → finite.get g.owned path ≡ None
  owned_come path none = was_none rules path (finite.get g.owned path) (sym (are.owned_are path) ∙ none)

  -- a rule keeps one record
  pub one_run : (number : ℕ) (run other : RunRecord) → IsRunNow g rules number run → IsRunNow g rules number other → run ≡ other
  one_run number run other (rule, before, here, was, ran) (second, earlier, there, was_there, ran_there) =
      let one : second ≡ rule = one_value second rule (sym there ∙ here) in
      let at : before ≡ earlier = one_before g rule before earlier was (subst (λ (r : Rule). WasAt g r earlier) one was_there) in
      one_value run other (sym ran ∙ ap (finite.get g.runs) at ∙ ran_there)

  runs_same : fold (put_one nat_cmp_total nat_cmp-IsAntisymmetric number-decides) (left are.kept g.runs) are.run_news ≡ runs_after are.runs
  runs_same =
      put_news nat_cmp_total nat_cmp-IsAntisymmetric number-decides are.runs are.run_news (left are.kept g.runs) are.run_news_are.within still
      (λ number run other here there. one_run number run other ((are.runs_are number run).0 here) ((are.runs_are number other).0 there)) gone_so
    where
      still : (number : ℕ) (run : RunRecord) → Contains are.runs (number, run) → Contains are.run_news (number, run) ⊎ (finite.get (left are.kept g.runs) number ≡ Some run)
      still number run here = elim (are.run_news_are.rest number run here) [
        | inl new ↦ inl new
        | inr stands ↦ inr (left_kept are.kept g.runs number ((are.kept_are number).1 (run, (are.runs_are number run).0 here)) ∙ stands)
      ]

      gone_so : (number : ℕ) → finite.get (runs_after are.runs) number ≡ None → finite.get (left are.kept g.runs) number ≡ None
      gone_so number none = none_left are.kept g.runs number (by (are.kept number) refl)
        where
          by : (b : Bool) → are.kept number ≡ b → b ≡ false
          by true is = absurd (kept_come number is none)
          by false is = refl

  owned_same : fold (put_one by_names-total by_names-antisymmetric by_names-decides) g.owned are.owned_news ≡ are.owned
  owned_same =
      put_news by_names-total by_names-antisymmetric by_names-decides (finite.entries are.owned) are.owned_news g.owned are.owned_news_are.within are.owned_news_are.rest
      (λ path one other here there. one_value one other (sym (found_entry are.owned path one here) ∙ found_entry are.owned path other there))
      (λ path none. owned_come path (ap (λ (m : finite.FinMap by_names Owned). finite.get m path) (sym (all_put by_names-total by_names-antisymmetric by_names-decides are.owned)) ∙ none))
      ∙ all_put by_names-total by_names-antisymmetric by_names-decides are.owned

  abbrev pub after : GraphState
  after = swapped g fresh gone rules are.runs are.owned are.flags

  pub run_is : (number : ℕ) (run : RunRecord) → finite.get after.runs number ≡ Some run → IsRunNow g rules number run
  run_is number run e = elim (put_there nat_cmp_total nat_cmp-IsAntisymmetric number-decides are.runs finite.empty number run e) [
    | inl there ↦ (are.runs_are number run).0 there
    | inr none ↦ absurd (no_value run (sym (finite.get-empty nat_cmp number) ∙ none))
  ]

  run_kept : (number before : ℕ) (rule : Rule) → slice_get rules number ≡ Some rule → WasAt g rule before → finite.get after.runs number ≡ finite.get g.runs before
  run_kept number before rule here was = by (finite.get g.runs before) refl (finite.get after.runs number) refl
    where
      same_run : (run : RunRecord) → IsRunNow g rules number run → finite.get g.runs before ≡ Some run
      same_run run (other, earlier, there, was_there, ran) =
          let one : other ≡ rule = one_value other rule (sym there ∙ here) in
          let at : earlier ≡ before = one_before g rule earlier before (subst (λ (r : Rule). WasAt g r earlier) one was_there) was in
          sym (ap (finite.get g.runs) at) ∙ ran

      by : (old : Option RunRecord) → finite.get g.runs before ≡ old → (new : Option RunRecord) → finite.get after.runs number ≡ new → finite.get after.runs number ≡ finite.get g.runs before
      by old was_so (Some run) is = is ∙ sym (same_run run (run_is number run is))
      by None was_so None is = is ∙ sym was_so
      by (Some run) was_so None is =
          let there = there_put nat_cmp_total nat_cmp-IsAntisymmetric number-decides are.runs finite.empty number run ((are.runs_are number run).1 (rule, before, here, was, was_so)) in
          absurd (no_value there.0 (sym is ∙ there.1))

  no_run : (number : ℕ) → ((run : RunRecord) → IsRunNow g rules number run → ⊥) → finite.get after.runs number ≡ None
  no_run number never = by (finite.get after.runs number) refl
    where
      by : (found : Option RunRecord) → finite.get after.runs number ≡ found → finite.get after.runs number ≡ None
      by None is = is
      by (Some run) is = absurd (never run (run_is number run is))

  -- ---- flags
  abbrev led : GraphState
  led = led_graph rules are.runs

  pub to_run : (number : ℕ) → Contains are.flags number → IsToRun g led number
  to_run number h = subst (λ (l : GraphState). IsToRun g l number) (led_is rules are.runs) ((are.flags_are number).0 h)

  is_to_run : (number : ℕ) → IsToRun g led number → Contains are.flags number
  is_to_run number to = (are.flags_are number).1 (subst (λ (l : GraphState). IsToRun g l number) (sym (led_is rules are.runs)) to)

  with_tt : (numbers : List ℕ) (number : ℕ) → Contains numbers number → Contains {X = ℕ × Unit {0}} (tagged numbers) (number, tt)
  with_tt [] number h = absurd (none_in number h)
  with_tt (first ∷ numbers) number h = elim (front_or_behind first number numbers h) [
    | inl same ↦ subst (λ (n : ℕ). Contains {X = ℕ × Unit {0}} (tagged (first ∷ numbers)) (n, tt)) same (in_front (first, tt) (tagged numbers))
    | inr later ↦ behind_front (first, tt) (number, tt) (tagged numbers) (with_tt numbers number later)
  ]

  without_tt : (numbers : List ℕ) (number : ℕ) → Contains {X = ℕ × Unit {0}} (tagged numbers) (number, tt) → Contains numbers number
  without_tt [] number h = absurd (none_in (number, tt) h)
  without_tt (first ∷ numbers) number h = elim (front_or_behind (first, tt) (number, tt) (tagged numbers) h) [
    | inl same ↦ subst (Contains (first ∷ numbers)) (λ i. (same i).0) (in_front first numbers)
    | inr later ↦ behind_front first number numbers (without_tt numbers number later)
  ]

  flag_to : (number : ℕ) → is_flagged after number ≡ true → Contains are.flags number
  flag_to number e = by (finite.get after.flags number) refl e
    where
      by : (found : Option (Unit {0})) → finite.get after.flags number ≡ found → is_some found ≡ true → Contains are.flags number
      by None is e = absurd (let wrong : false ≡ true = e in cc)
      by (Some tt) is e = elim (put_there nat_cmp_total nat_cmp-IsAntisymmetric number-decides (tagged are.flags) finite.empty number tt is) [
        | inl there ↦ without_tt are.flags number there
        | inr none ↦ absurd (no_value tt (sym (finite.get-empty nat_cmp number) ∙ none))
      ]

  flag_from : (number : ℕ) → Contains are.flags number → is_flagged after number ≡ true
  flag_from number h = ap is_some (there_put nat_cmp_total nat_cmp-IsAntisymmetric number-decides (tagged are.flags) finite.empty number tt (with_tt are.flags number h)).1

  flagged_to : (number : ℕ) → IsToRun g led number → IsFlaggedYet g after number ⊎ IsAbove after (ReadsNew g after) number
  flagged_to number (inl yet) = inl yet
  flagged_to number (inr above) = inr (above.0, above_as led after (ReadsNew g led) (ReadsNew g after) refl refl (λ n reads. reads) above.0 number above.1)

  flagged_from : (number : ℕ) → IsFlaggedYet g after number ⊎ IsAbove after (ReadsNew g after) number → IsToRun g led number
  flagged_from number (inl yet) = inl yet
  flagged_from number (inr above) = inr (above.0, above_as after led (ReadsNew g after) (ReadsNew g led) refl refl (λ n reads. reads) above.0 number above.1)

  -- ---- all of it
  is_swapped : IsDistinct same_path (map dir_of fresh) → IsSwapped g fresh gone rules after
  is_swapped once = record {
    seen = refl;
    readings = reading_after g fresh gone once;
    rules_are = refl;
    places = placed rules;
    kept_runs = λ number before rule here was. run_kept number before rule here was;
    no_runs = λ number rule here new. no_run number (λ run now.
        (let one : now.0 ≡ rule = one_value now.0 rule (sym now.2 ∙ here) in new now.1 (subst (λ (r : Rule). IsRuleAt g now.1 r) one now.3.0)));
    no_others = λ number none. no_run number (λ run now. no_value now.0 (sym none ∙ now.2));
    owned = are.owned_are;
    created = refl;
    flags = λ number. (λ e. flagged_to number (to_run number (flag_to number e)), λ h. flag_from number (is_to_run number (flagged_from number h)));
  }

  pub edits_leave : length g.places ≡ length g.rules → edited_by g edits ≡ after
  edits_leave level = ap (edited_by g) are.all ∙ swap_leaves g fresh gone rules are.runs are.owned are.flags are.kept are.run_news are.owned_news runs_same owned_same level

  pub swap_noted : length g.places ≡ length g.rules → IsDistinct same_path (map dir_of fresh) → IsSwapped g fresh gone rules (edited_by g edits)
  swap_noted level once = subst (IsSwapped g fresh gone rules) (sym (edits_leave level)) (is_swapped once)
