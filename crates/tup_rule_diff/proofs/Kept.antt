-- The records and the flags that rules keep, and the rules that are to be run.
use Rattle.std.specs.Prelude.{◌≡◌, ◌⊎◌, ◌↔◌, ℕ, zero, suc, Bool, true, false, List, [], ◌∷◌, ◌++◌, Option, None, Some, Contains, is_none, is_some, length, map, option_map, option_to_list, slice_get, unwrap_or, if◌then◌else◌}
use Rattle.std.proofs.Common.{refl, sym, ap, subst, ◌∙◌, inl, inr, arith}
use Rattle.std.specs.Ordering.{nat_cmp}
use Rattle.std.specs.Cmp.{nat_cmp_total}
use Rattle.std.specs.FinMap as finite
use Rattle.std.specs.FinMap.{nat_cmp-IsAntisymmetric}
use Rattle.std.proofs.lemmas.Bool.{lt-ltb}
use Rattle.std.proofs.lemmas.List.Elements.{Contains-append_left, Contains-append_right, Contains-append_cases}
use Rattle.std.proofs.lemmas.Option.{none-some, same_Some, slice_get_within}
use Rattle.tup_path.specs.Name.{Names}
use Rattle.tup_rule.specs.declared.rule.Rule.{Rule}
use Rattle.tup_rule.specs.declared.question.Reading.{Reading}
use Rattle.tup_rule.proofs.Laws.{among-decides}
use Rattle.tup_record.specs.declared.run.RunRecord.{RunRecord}
use Rattle.tup_graph.specs.declared.edit.Edit.{Edit}
use Rattle.tup_graph.specs.Above.{AboveOver, IsAbove}
use Rattle.tup_graph.specs.Graph.{GraphState, is_rule, is_flagged}
use Rattle.tup_graph.specs.Swap.{WasAt, IsNew, IsFlaggedYet, ReadsNew}
use Rattle.tup_graph.specs.Transactions.{flag_edits}
use Rattle.tup_readers.proofs.Entries.{in_front, none_in, front_or_behind}
use Rattle.tup_closure.specs.Readers.{AreRunsOfRules}
use Rattle.tup_closure.proofs.Members.{number-decides}
use Rattle.tup_closure.specs.Steps.{HasStepped}
use Rattle.tup_closure.proofs.Stepping.{above_as}
use Rattle.tup_closure.proofs.Walking.{no_order}
use Rattle.tup_rule_diff.specs.Before.{AreNumbersBefore, IsNumberBefore}
use Rattle.tup_rule_diff.specs.Edits.{AreNews, AreSwapEdits, HadNumber, PutsAll, IsRunNow, IsToRun, clear_edits, led_by, less_edits, more_edits, own_so, reading_edits, run_so}
use Rattle.tup_rule_diff.specs.Numbered.{numbered}
use Rattle.tup_rule_diff.specs.Owners.{AreOwned}
use Rattle.tup_rule_diff.specs.Running.{NoneReadsNew, ReadsOneNew, flag_at, had_run, is_new_at, keeps_run, run_at, was_flagged}
use Rattle.tup_rule_diff.proofs.Leaving.{Owners, led_graph, led_is}
use Rattle.tup_rule_diff.proofs.Looked.{before_of, rule_of}
use Rattle.tup_rule_diff.proofs.Numbered.{had_at, is_had_at}
use Rattle.tup_rule_diff.proofs.Puts.{put_there}
use Rattle.tup_rule_diff.proofs.Swapping.{one_before}

-- ---- members of short lists, and of lists one behind another
in_one : {Y : Type 0} (x y : Y) → Contains (x ∷ []) y → x ≡ y
in_one x y h = elim (front_or_behind x y [] h) [
  | inl same ↦ same
  | inr later ↦ absurd (none_in y later)
]

in_chosen : (b : Bool) (n number : ℕ) → Contains (if b then n ∷ [] else []) number → (b ≡ true) × (n ≡ number)
in_chosen true n number inside = (refl, in_one n number inside)
in_chosen false n number inside = absurd (none_in number inside)

in_found : (found : Option RunRecord) (n number : ℕ) (run : RunRecord) → Contains {X = ℕ × RunRecord} (option_to_list (option_map (λ (r : RunRecord). (n, r)) found)) (number, run) → (n ≡ number) × (found ≡ Some run)
in_found None n number run inside = absurd (none_in (number, run) inside)
in_found (Some one) n number run inside = let same = in_one (n, one) (number, run) inside in ((λ k. (same k).0), (λ k. Some (same k).1))

-- ---- a rule and the number that it had
module _ (g : GraphState) (rule : Rule) where
  abbrev IsFlaggedSo : Type 0
  IsFlaggedSo = IsNew g rule ⊎ ((before : ℕ) × WasAt g rule before × (is_flagged g before ≡ true))

  yet : (before : Option ℕ) → IsNumberBefore g rule before → was_flagged g before ≡ true → IsFlaggedSo
  yet None new is = inl new
  yet (Some before) was is = inr (before, was, is)

  still : (before : Option ℕ) → IsNumberBefore g rule before → IsFlaggedSo → was_flagged g before ≡ true
  still None new why = refl
  still (Some before) was (inl new) = absurd (new before was.0)
  still (Some before) was (inr (other, there, flagged)) = ap (is_flagged g) (one_before g rule before other was there) ∙ flagged

  new_so : (before : Option ℕ) → IsNumberBefore g rule before → is_none before ≡ true → IsNew g rule
  new_so None new e = new
  new_so (Some before) was e = absurd (let wrong : false ≡ true = e in cc)

  none_so : (before : Option ℕ) → IsNumberBefore g rule before → IsNew g rule → is_none before ≡ true
  none_so None is new = refl
  none_so (Some before) was new = absurd (new before was.0)

  run_so_at : (number before : ℕ) (run : RunRecord) (one : Option ℕ) → IsNumberBefore g rule one → WasAt g rule before → finite.get g.runs before ≡ Some run → Contains (run_at g number one) (number, run)
  run_so_at number before run None new was ran = absurd (new before was.0)
  run_so_at number before run (Some other) is was ran =
      subst (λ (found : Option RunRecord). Contains {X = ℕ × RunRecord} (option_to_list (option_map (λ (r : RunRecord). (number, r)) found)) (number, run))
      (sym (ap (finite.get g.runs) (one_before g rule other before is was) ∙ ran)) (in_front (number, run) [])

module _ (g : GraphState) (rules : List Rule) (befores : List (Option ℕ)) (are : AreNumbersBefore g rules befores) where
  -- ---- records
  ran_so : (number : ℕ) (run : RunRecord) (i : ℕ) (rule : Rule) → slice_get rules i ≡ Some rule → (before : Option ℕ) → IsNumberBefore g rule before → Contains (run_at g i before) (number, run) → IsRunNow g rules number run
  ran_so number run i rule here None new inside = absurd (none_in (number, run) inside)
  ran_so number run i rule here (Some before) was inside =
      let is = in_found (finite.get g.runs before) i number run inside in
      (rule, before, subst (λ (n : ℕ). slice_get rules n ≡ Some rule) is.0 here, was, is.1)

  pub run_to : (number : ℕ) (run : RunRecord) → Contains (numbered (run_at g) 0 befores) (number, run) → IsRunNow g rules number run
  run_to number run h =
      let had = had_at (run_at g) befores (number, run) h in
      let rule = rule_of g rules befores had.0 had.1 are had.2 in
      ran_so number run had.0 rule.0 rule.1 had.1 rule.2 had.3

  pub run_from : (number : ℕ) (run : RunRecord) → IsRunNow g rules number run → Contains (numbered (run_at g) 0 befores) (number, run)
  run_from number run is =
      let before = before_of g rules befores number is.0 are is.2 in
      is_had_at (run_at g) befores number before.0 (number, run) before.1 (run_so_at g is.0 number is.1 run before.0 before.2 is.3 is.4)

  -- ---- the numbers under which a record is kept
  kept_to : (number : ℕ) → keeps_run g befores number ≡ true → (run : RunRecord) × IsRunNow g rules number run
  kept_to number e = by (slice_get befores number) refl e
    where
      ran : (before : ℕ) (rule : Rule) → slice_get rules number ≡ Some rule → WasAt g rule before → (found : Option RunRecord) → finite.get g.runs before ≡ found → is_some found ≡ true → (run : RunRecord) × IsRunNow g rules number run
      ran before rule here was (Some run) is some = (run, (rule, before, here, was, is))
      ran before rule here was None is some = absurd (let wrong : false ≡ true = some in cc)

      had : (before : Option ℕ) (rule : Rule) → slice_get rules number ≡ Some rule → IsNumberBefore g rule before → had_run g before ≡ true → (run : RunRecord) × IsRunNow g rules number run
      had None rule here new some = absurd (let wrong : false ≡ true = some in cc)
      had (Some before) rule here was some = ran before rule here was (finite.get g.runs before) refl some

      by : (one : Option (Option ℕ)) → slice_get befores number ≡ one → had_run g (unwrap_or one None) ≡ true → (run : RunRecord) × IsRunNow g rules number run
      by None there some = absurd (let wrong : false ≡ true = some in cc)
      by (Some before) there some = let rule = rule_of g rules befores number before are there in had before rule.0 rule.1 rule.2 some

  kept_from : (number : ℕ) → (run : RunRecord) × IsRunNow g rules number run → keeps_run g befores number ≡ true
  kept_from number (run, (rule, before, here, was, ran)) =
      let one = before_of g rules befores number rule are here in
      ap (λ (o : Option (Option ℕ)). had_run g (unwrap_or o None)) one.1 ∙ by one.0 one.2
    where
      by : (one : Option ℕ) → IsNumberBefore g rule one → had_run g one ≡ true
      by None new = absurd (new before was.0)
      by (Some other) is = ap is_some (ap (finite.get g.runs) (one_before g rule other before is was) ∙ ran)

  -- ---- flags that stay
  module _ (led : GraphState) (same : led.rules ≡ rules) where
    flag_to : (number : ℕ) → Contains (numbered (flag_at g) 0 befores) number → IsFlaggedYet g led number
    flag_to number h =
        let had = had_at (flag_at g) befores number h in
        let rule = rule_of g rules befores had.0 had.1 are had.2 in
        let is = in_chosen (was_flagged g had.1) had.0 number had.3 in
        (rule.0, ap (λ (l : List Rule). slice_get l number) same ∙ ap (slice_get rules) (sym is.1) ∙ rule.1, yet g rule.0 had.1 rule.2 is.0)

    flag_from : (number : ℕ) → IsFlaggedYet g led number → Contains (numbered (flag_at g) 0 befores) number
    flag_from number is =
        let before = before_of g rules befores number is.0 are (ap (λ (l : List Rule). slice_get l number) (sym same) ∙ is.1) in
        is_had_at (flag_at g) befores number before.0 number before.1
        (subst (λ (b : Bool). Contains (if b then number ∷ [] else []) number) (sym (still g is.0 before.0 before.2 is.2)) (in_front number []))

    -- ---- readers of what new rules make
    is_new_to : (i : ℕ) (rule : Rule) → slice_get led.rules i ≡ Some rule → is_new_at befores i ≡ true → IsNew g rule
    is_new_to i rule here new =
        let before = before_of g rules befores i rule are (ap (λ (l : List Rule). slice_get l i) (sym same) ∙ here) in
        new_so g rule before.0 before.2 (sym (ap (λ (o : Option (Option ℕ)). unwrap_or (option_map is_none o) false) before.1) ∙ new)

    is_new_from : (i : ℕ) (rule : Rule) → slice_get led.rules i ≡ Some rule → IsNew g rule → is_new_at befores i ≡ true
    is_new_from i rule here new =
        let before = before_of g rules befores i rule are (ap (λ (l : List Rule). slice_get l i) (sym same) ∙ here) in
        ap (λ (o : Option (Option ℕ)). unwrap_or (option_map is_none o) false) before.1 ∙ none_so g rule before.0 before.2 new

    pub reads_to : (number : ℕ) → ReadsOneNew led befores number → ReadsNew g led number
    reads_to number (i, rule, here, (new, (path, inside, asked))) = (i, rule, here, is_new_to i rule here new, (path, asked, (among-decides path rule.outputs).1 inside))

    pub reads_from : (number : ℕ) → ReadsNew g led number → ReadsOneNew led befores number
    reads_from number (i, rule, here, new, (path, asked, wrote)) = (i, rule, here, (is_new_from i rule here new, (path, (among-decides path rule.outputs).0 wrote, asked)))

    -- ---- no record asks an output of a new rule
    module _ (none : NoneReadsNew led befores) where
      none_over : (steps number : ℕ) → AboveOver steps led (ReadsNew g led) number → ⊥
      none_over zero number root = none number (reads_from number root)
      none_over (suc steps) number (before, maker, over, here, read) = none_over steps before over

      pub kept_are : (flags : List ℕ) → flags ≡ numbered (flag_at g) 0 befores → (n : ℕ) → Contains flags n ↔ IsToRun g led n
      kept_are flags is n = (λ h. inl (flag_to n (subst (λ (l : List ℕ). Contains l n) is h)), λ to. subst (λ (l : List ℕ). Contains l n) (sym is) (from to))
        where
          from : IsToRun g led n → Contains (numbered (flag_at g) 0 befores) n
          from (inl yet) = flag_from n yet
          from (inr up) = absurd (none_over up.0 n up.1)

      pub kept_stepped : (steps : ℕ) → HasStepped led (ReadsNew g led) steps steps
      kept_stepped steps = record {
        roots = [];
        reached = [];
        are_roots = record { ascending = no_order [] refl; members = λ n. (λ h. absurd (none_in n h), λ root. absurd (none n (reads_from n root))) };
        are_above = record { ascending = no_order [] refl; members = λ n. (λ h. absurd (none_in n h), λ up. absurd (none_over up.0 n up.1)) };
        steps = omega arith;
      }

    module _ (runs : AreRunsOfRules led) where
      pub is_root : (number : ℕ) → ReadsOneNew led befores number → is_rule led number ≡ true
      is_root number (i, rule, here, (new, (path, inside, asked))) = runs number asked.0 asked.2

      -- ---- all that are to be run
      pub to_run_are : (roots above flags : List ℕ) → ((n : ℕ) → Contains roots n ↔ ReadsOneNew led befores n) → ((n : ℕ) → Contains above n ↔ IsAbove led (Contains roots) n) → flags ≡ above ++ numbered (flag_at g) 0 befores
          → (n : ℕ) → Contains flags n ↔ IsToRun g led n
      to_run_are roots above flags rooted over is n = (
        λ h. elim (Contains-append_cases above (numbered (flag_at g) 0 befores) n (subst (λ (l : List ℕ). Contains l n) is h)) [
          | inl there ↦ let up = (over n).0 there in inr (up.0, above_as led led (Contains roots) (ReadsNew g led) refl refl (λ root h. reads_to root ((rooted root).0 h)) up.0 n up.1)
          | inr there ↦ inl (flag_to n there)
        ],
        λ to. subst (λ (l : List ℕ). Contains l n) (sym is) (from to),
      )
        where
          from : IsToRun g led n → Contains (above ++ numbered (flag_at g) 0 befores) n
          from (inl yet) = Contains-append_right above (numbered (flag_at g) 0 befores) n (flag_from n yet)
          from (inr up) =
              Contains-append_left above (numbered (flag_at g) 0 befores) n
              ((over n).1 (up.0, above_as led led (ReadsNew g led) (Contains roots) refl refl (λ root reads. (rooted root).1 (reads_from root reads)) up.0 n up.1))

  -- ---- the graph of the rules and of the records that they keep
  module _ (runs : List (ℕ × RunRecord)) (kept : runs ≡ numbered (run_at g) 0 befores) where
    ran_in : (number : ℕ) (run : RunRecord) → Contains runs (number, run) ⊎ (finite.get {R = nat_cmp} finite.empty number ≡ Some run) → is_rule (led_graph rules runs) number ≡ true
    ran_in number run (inl there) =
        let is = run_to number run (subst (λ (l : List (ℕ × RunRecord)). Contains l (number, run)) kept there) in
        lt-ltb number (length rules) (slice_get_within rules number is.0 is.2)
    ran_in number run (inr none) = absurd (none-some run (sym (finite.get-empty nat_cmp number) ∙ none))

    pub led_runs : AreRunsOfRules (led_by rules runs)
    led_runs = subst AreRunsOfRules (sym (led_is rules runs)) (λ number run e.
        ran_in number run (put_there nat_cmp_total nat_cmp-IsAntisymmetric number-decides runs finite.empty number run e))

    pub led_rules : (led_by rules runs).rules ≡ rules
    led_rules = ap (λ (l : GraphState). l.rules) (led_is rules runs)

    -- ---- all edits
    -- a record under the number that its rule had stands
    run_stands : (number : ℕ) (run : RunRecord) → Contains runs (number, run) → HadNumber befores number run → finite.get g.runs number ≡ Some run
    run_stands number run h same = by (run_to number run (subst (λ (l : List (ℕ × RunRecord)). Contains l (number, run)) kept h))
      where
        by : IsRunNow g rules number run → finite.get g.runs number ≡ Some run
        by (rule, before, here, was, ran) =
            let one = before_of g rules befores number rule are here in
            let had : one.0 ≡ Some number = same_Some one.0 (Some number) (sym one.1 ∙ same) in
            ap (finite.get g.runs) (one_before g rule number before (subst (IsNumberBefore g rule) had one.2) was) ∙ ran

    news_stand : (news : List (ℕ × RunRecord)) → AreNews (HadNumber befores) runs news → AreNews (λ number run. finite.get g.runs number ≡ Some run) runs news
    news_stand news found = record {
      within = found.within;
      rest = λ number run h. elim (found.rest number run h) [
        | inl new ↦ inl new
        | inr same ↦ inr (run_stands number run h same)
      ];
    }

    pub are_edits : (fresh : List (Names × Reading)) (gone : List Names) (owned : Owners) (flags : List ℕ) (start away edits : List Edit) → AreOwned rules g.owned owned → ((n : ℕ) → Contains flags n ↔ IsToRun g (led_by rules runs) n)
        → start ≡ [] → away ≡ start ++ clear_edits (keeps_run g befores) g ++ reading_edits g fresh gone ++ less_edits (length rules) 0 g.rules ++ more_edits [] rules → PutsAll g befores runs owned flags away edits → AreSwapEdits g fresh gone rules edits
    are_edits fresh gone owned flags start away edits owners to_run none first (run_news, owned_news, runs_new, owned_new, second) = record {
      runs = runs;
      kept = keeps_run g befores;
      owned = owned;
      run_news = run_news;
      owned_news = owned_news;
      flags = flags;
      runs_are = λ number run. (
        λ h. run_to number run (subst (λ (l : List (ℕ × RunRecord)). Contains l (number, run)) kept h),
        λ is. subst (λ (l : List (ℕ × RunRecord)). Contains l (number, run)) (sym kept) (run_from number run is),
      );
      kept_are = λ number. (kept_to number, kept_from number);
      owned_are = owners;
      run_news_are = news_stand run_news runs_new;
      owned_news_are = owned_new;
      flags_are = to_run;
      all =
          second ∙ (λ i. first i ++ map run_so run_news ++ map own_so owned_news ++ flag_edits flags)
          ∙ (λ i. none i ++ clear_edits (keeps_run g befores) g ++ reading_edits g fresh gone ++ less_edits (length rules) 0 g.rules ++ more_edits [] rules ++ map run_so run_news ++ map own_so owned_news ++ flag_edits flags);
    }
