-- After a scan and a swap just the rules that are reached are flagged.
use Rattle.std.specs.Prelude.{◌≡◌, ◌≢◌, ◌⊎◌, ◌<◌, ℕ, zero, suc, Bool, true, false, List, Option, None, Some, Contains, IsSome, cond, is_some, option_map, slice_get}
use Rattle.std.proofs.Common.{refl, sym, ap, subst, ◌∙◌, inl, inr, arith}
use Rattle.std.specs.FinMap as finite
use Rattle.std.proofs.lemmas.Bool.{true≢false}
use Rattle.std.proofs.lemmas.Option.{none-some, same_Some}
use Rattle.tup_path.specs.Name.{Names, Content}
use Rattle.tup_path.specs.Tree.{Tree}
use Rattle.tup_stamp.specs.declared.Stamp.{Stamp}
use Rattle.tup_stamp.specs.Stamp.{stamp}
use Rattle.tup_rule.specs.Rule.{declares, writes}
use Rattle.tup_rule.specs.declared.question.Reading.{Reading}
use Rattle.tup_rule.specs.declared.rule.Rule.{Rule}
use Rattle.tup_rule.proofs.Laws.{maker-Some}
use Rattle.tup_clean.proofs.Among.{is_generated-maker}
use Rattle.tup_runner.specs.Next.{Next}
use Rattle.tup_record.specs.declared.run.RunRecord.{RunRecord}
use Rattle.tup_graph.specs.Above.{AboveOver, IsAbove, HasReadOf}
use Rattle.tup_graph.specs.Answers.{Sources}
use Rattle.tup_graph.specs.Graph.{GraphState, is_flagged, is_owned, source}
use Rattle.tup_graph.specs.Kept.{IsKept, IsRuleAt}
use Rattle.tup_graph.specs.Reach.{source_in, stamp_in, HasRecord, IsChanged, IsReachRoot, ReachedOver, IsReached}
use Rattle.tup_graph.specs.Records.{Language}
use Rattle.tup_graph.specs.Scan.{BeginsAt, IsScanned, IsTouched}
use Rattle.tup_graph.specs.Turned.{AskedTurned, IsTurnedRun}
use Rattle.tup_graph.proofs.Keeping.{has_run}
use Rattle.tup_graph.specs.Swap.{IsFlaggedYet, IsNew, IsSwapped, ReadsNew, WasAt}
use Rattle.tup_law_graph.specs.Linking.{DeclareWhatIsThere, HaveOwnNames}
use Rattle.tup_law_graph.proofs.Scanning.{scan_upward}
use Rattle.tup_law_graph.proofs.Turning.{sources_seen}
use Rattle.tup_law_graph.proofs.Swapping.{ran_before, stands, stood, swap_upward, was_or_new}

module _ (next : Next) (language : Language) (known : List Content) (g scanned swapped : GraphState) (files : List (Names × Stamp)) (config : Option Content) (fresh : List (Names × Reading)) (gone : List Names) (rules : List Rule) (tree sources : Tree)
    (kept : IsKept next language known g) (scan : IsScanned g files config scanned) (swap : IsSwapped scanned fresh gone rules swapped) (as_seen : (path : Names) → finite.get scanned.seen path ≡ stamp_in tree path)
    (sees : (path : Names) → source scanned path ≡ stamp_in sources path) (own_names : HaveOwnNames g.rules) (declare : DeclareWhatIsThere sources rules) where
  abbrev Root : ℕ → Type 0
  Root = BeginsAt g scanned

  -- a rule and a record of the graph that was scanned are those of the graph
  rule_in : (number : ℕ) (rule : Rule) → IsRuleAt scanned number rule → IsRuleAt g number rule
  rule_in number rule here = subst (λ (l : List Rule). slice_get l number ≡ Some rule) scan.rules here

  rule_out : (number : ℕ) (rule : Rule) → IsRuleAt g number rule → IsRuleAt scanned number rule
  rule_out number rule here = subst (λ (l : List Rule). slice_get l number ≡ Some rule) (sym scan.rules) here

  run_in : (number : ℕ) (run : RunRecord) → finite.get scanned.runs number ≡ Some run → finite.get g.runs number ≡ Some run
  run_in number run ran = sym (λ i. finite.get (scan.runs i) number) ∙ ran

  run_out : (number : ℕ) (run : RunRecord) → finite.get g.runs number ≡ Some run → finite.get scanned.runs number ≡ Some run
  run_out number run ran = (λ i. finite.get (scan.runs i) number) ∙ ran

  was_new : (rule : Rule) → IsNew scanned rule → (number : ℕ) → IsRuleAt g number rule → ⊥
  was_new rule fresh_one number here = fresh_one number (rule_out number rule here)

  -- the sources that are seen are those in the tree
  sources_are : source scanned ≡ source_in g tree
  sources_are = sources_seen g scanned tree scan.owned as_seen

  -- two rules of the graph that make one path are one
  one_maker : (a b : ℕ) (x y : Rule) (path : Names) → IsRuleAt g a x → IsRuleAt g b y → writes x path ≡ true → writes y path ≡ true → a ≡ b
  one_maker a b x y path here there mine yours =
      let one = kept.owners.made a x path here mine in
      let two = kept.owners.made b y path there yours in
      let same = same_Some one.0 two.0 (sym one.1 ∙ two.1) in
      same_Some a b (sym one.2 ∙ (λ i. (same i).maker) ∙ two.2)

  -- what is owned is no source
  owned_no_source : (path : Names) → is_owned scanned path ≡ true → IsSome (finite.get sources path) → ⊥
  owned_no_source path owned some = by (finite.get sources path) some (sym (sees path) ∙ ap (λ b. cond b None (finite.get scanned.seen path)) owned)
    where
      by : (found : Option Content) → IsSome found → option_map stamp found ≡ None → ⊥
      by (Some content) there none = true≢false (ap is_some none)
      by None there none = true≢false (sym there)

  -- an owned path that a new rule declares is made by one
  made : (number : ℕ) (rule : Rule) (path : Names) → slice_get rules number ≡ Some rule → declares rule path ≡ true → is_owned g path ≡ true
      → (other : ℕ) × (it : Rule) × (slice_get rules other ≡ Some it) × (writes it path ≡ true)
  made number rule path here declared owned = elim (declare number rule path here declared) [
    | inl source ↦ absurd (owned_no_source path ((λ i. finite.contains_key (scan.owned i) path) ∙ owned) source)
    | inr generated ↦ (let at = is_generated-maker rules path generated in let maker = maker-Some rules path at.0 at.1 in (at.0, maker.rule, maker.here, maker.writes_it))
  ]

  -- ---- what is flagged is reached

  touched_root : (number : ℕ) (rule : Rule) → IsRuleAt g number rule → IsTouched scanned number → IsReachRoot g tree rule
  touched_root number rule here (it, run, there, ran, what) = inr (inr (number, run, record { same = here; run_of = run_in number run ran }, inl (changed what)))
    where
      same : it ≡ rule
      same = same_Some it rule (sym (rule_in number it there) ∙ here)

      changed : ((path : Names) × (given : Option Stamp) × (Contains run.asks (path, given) × (writes it path ≡ false)) × (given ≢ finite.get scanned.seen path)) ⊎ ((path : Names) × (given : Stamp) × Contains run.writes (path, given) × (Some given ≢ finite.get scanned.seen path))
          → IsChanged tree rule run
      changed (inl (path, given, asked, apart)) = inl (path, given, (asked.0, subst (λ (r : Rule). writes r path ≡ false) same asked.1), λ e. apart (e ∙ sym (as_seen path)))
      changed (inr (path, given, wrote, apart)) = inr (path, given, wrote, λ e. apart (e ∙ sym (as_seen path)))

  turned_root : (number : ℕ) (rule : Rule) → IsRuleAt g number rule → IsTurnedRun g scanned number → IsReachRoot g tree rule
  turned_root number rule here (it, run, there, ran, told) =
      inr (inr (number, run, record { same = here; run_of = run_in number run ran }, inr (subst (λ (x : Rule × Sources). AskedTurned (source g) x.1 x.0 run) (λ i. (same i, sources_are i)) told)))
    where
      same : it ≡ rule
      same = same_Some it rule (sym (rule_in number it there) ∙ here)

  root_reached : (before : ℕ) (rule : Rule) → Root before → IsRuleAt g before rule → (number : ℕ) → slice_get rules number ≡ Some rule → IsReached g tree rules number
  root_reached before rule (inl flagged) here number there = (zero, (rule, there, inr (inl (before, here, inl flagged))))
  root_reached before rule (inr (inl touched)) here number there = (zero, (rule, there, touched_root before rule here touched))
  root_reached before rule (inr (inr turned)) here number there = (zero, (rule, there, turned_root before rule here turned))

  -- who read an output of a reached rule is reached
  further : (number other before : ℕ) (rule it : Rule) (run : RunRecord) (path : Names) (given : Option Stamp) → slice_get rules number ≡ Some rule → HasRecord g rule before run → Contains run.asks (path, given)
      → slice_get rules other ≡ Some it → writes it path ≡ true → IsReached g tree rules other → IsReached g tree rules number
  further number other before rule it run path given here has asked there wrote (reads, over) = (suc reads, (rule, other, it, before, run, path, given, here, has, asked, there, wrote, over))

  -- who asked an output of a rule all copies of which are reached
  step_reached : (first before : ℕ) (maker rule : Rule) (run : RunRecord) (path : Names) (given : Option Stamp) → IsRuleAt g first maker → IsRuleAt g before rule → finite.get g.runs before ≡ Some run → Contains run.asks (path, given)
      → writes maker path ≡ true → ((it : Rule) → IsRuleAt g first it → (at : ℕ) → slice_get rules at ≡ Some it → IsReached g tree rules at) → (number : ℕ) → slice_get rules number ≡ Some rule → IsReached g tree rules number
  step_reached first before maker rule run path given maker_here here ran asked wrote again number there = by (is_flagged g before) refl (writes rule path) refl
    where
      has : HasRecord g rule before run
      has = record { same = here; run_of = ran }

      owned : is_owned g path ≡ true
      owned = ap is_some (kept.owners.made first maker path maker_here wrote).1

      by_maker : (other : ℕ) (it : Rule) → slice_get rules other ≡ Some it → writes it path ≡ true → ((at : ℕ) × WasAt scanned it at) ⊎ IsNew scanned it → IsReached g tree rules number
      by_maker other it it_there it_wrote (inr fresh_one) = further number other before rule it run path given there has asked it_there it_wrote (zero, (it, it_there, inl (was_new it fresh_one)))
      by_maker other it it_there it_wrote (inl (at, was)) =
          let was_here = rule_in at it was.0 in
          further number other before rule it run path given there has asked it_there it_wrote
          (again it (subst (λ (n : ℕ). IsRuleAt g n it) (one_maker at first it maker path was_here maker_here it_wrote wrote) was_here) other it_there)

      made_by_one : (other : ℕ) × (it : Rule) × (slice_get rules other ≡ Some it) × (writes it path ≡ true) → IsReached g tree rules number
      made_by_one (other, it, it_there, it_wrote) = by_maker other it it_there it_wrote (was_or_new scanned it)

      by : (flag : Bool) → is_flagged g before ≡ flag → (own : Bool) → writes rule path ≡ own → IsReached g tree rules number
      by true flagged own mine = root_reached before rule (inl flagged) here number there
      by false unflagged true mine = again rule (subst (λ (n : ℕ). IsRuleAt g n rule) (one_maker before first rule maker path here maker_here mine wrote) here) number there
      by false unflagged false not_mine = made_by_one (made number rule path there (kept.declared before rule run path given (record { here = here; unflagged = unflagged }) ran (asked, not_mine) owned) owned)

  above_reached : (reads before : ℕ) (rule : Rule) → AboveOver reads scanned Root before → IsRuleAt g before rule → (number : ℕ) → slice_get rules number ≡ Some rule → IsReached g tree rules number
  above_reached zero before rule root here number there = root_reached before rule root here number there
  above_reached (suc reads) before rule (first, maker, over, maker_here, (path, (run, given, ran, asked), wrote)) here number there =
      step_reached first before maker rule run path given (rule_in first maker maker_here) here (run_in before run ran) asked wrote (λ it it_here at it_there. above_reached reads first it over it_here at it_there) number there

  rule_of_run : (number : ℕ) (run : RunRecord) → finite.get swapped.runs number ≡ Some run → (rule : Rule) × (slice_get rules number ≡ Some rule)
  rule_of_run number run ran = by (slice_get rules number) refl
    where
      by : (found : Option Rule) → slice_get rules number ≡ found → (rule : Rule) × (slice_get rules number ≡ Some rule)
      by (Some rule) here = (rule, here)
      by None none = absurd (none-some run (sym (swap.no_others number none) ∙ ran))

  -- who read an output of one that is reached
  reader_reached : (number other : ℕ) (maker : Rule) → slice_get rules other ≡ Some maker → HasReadOf swapped number maker → IsReached g tree rules other → IsReached g tree rules number
  reader_reached number other maker there (path, (run, given, ran, asked), wrote) reached =
      let it = rule_of_run number run ran in
      let was = ran_before scanned swapped fresh gone rules swap number it.0 run (stands scanned swapped fresh gone rules swap number it.0 it.1) ran in
      further number other was.0 it.0 maker run path given it.1 (record { same = rule_in was.0 it.0 was.1.0; run_of = run_in was.0 run was.2 }) asked there wrote reached

  new_reached : (reads number : ℕ) → AboveOver reads swapped (ReadsNew scanned swapped) number → IsReached g tree rules number
  new_reached zero number (other, maker, here, fresh_one, read) =
      let there = stood scanned swapped fresh gone rules swap other maker here in
      reader_reached number other maker there read (zero, (maker, there, inl (was_new maker fresh_one)))
  new_reached (suc reads) number (other, maker, over, here, read) = reader_reached number other maker (stood scanned swapped fresh gone rules swap other maker here) read (new_reached reads other over)

  pub flagged_reached : (number : ℕ) → is_flagged swapped number ≡ true → IsReached g tree rules number
  flagged_reached number flagged = by ((swap.flags number).0 flagged)
    where
      was_above : (before : ℕ) (rule : Rule) → IsAbove scanned Root before → IsRuleAt g before rule → slice_get rules number ≡ Some rule → IsReached g tree rules number
      was_above before rule (reads, over) here there = above_reached reads before rule over here number there

      by : IsFlaggedYet scanned swapped number ⊎ IsAbove swapped (ReadsNew scanned swapped) number → IsReached g tree rules number
      by (inl (rule, here, inl fresh_one)) = (zero, (rule, stood scanned swapped fresh gone rules swap number rule here, inl (was_new rule fresh_one)))
      by (inl (rule, here, inr (before, was, flag))) = was_above before rule ((scan.flags before).0 flag) (rule_in before rule was.0) (stood scanned swapped fresh gone rules swap number rule here)
      by (inr (reads, over)) = new_reached reads number over

  -- ---- what is reached is flagged

  was_at : (before : ℕ) (rule : Rule) → IsRuleAt g before rule → WasAt scanned rule before
  was_at before rule here = (rule_out before rule here, earlier)
    where
      earlier : (e : ℕ) → e < before → IsRuleAt scanned e rule → ⊥
      earlier e less there = let same : e ≡ before = own_names e before rule rule (rule_in e rule there) here refl in omega (arith, less, same)

  flagged_if : (number before : ℕ) (rule : Rule) → slice_get rules number ≡ Some rule → IsRuleAt g before rule → Root before → is_flagged swapped number ≡ true
  flagged_if number before rule there here root =
      (swap.flags number).1 (inl (rule, stands scanned swapped fresh gone rules swap number rule there, inr (before, was_at before rule here, (scan.flags before).1 (zero, root))))

  root_flagged : (number : ℕ) (rule : Rule) → slice_get rules number ≡ Some rule → IsReachRoot g tree rule → is_flagged swapped number ≡ true
  root_flagged number rule there (inl none) =
      (swap.flags number).1 (inl (rule, stands scanned swapped fresh gone rules swap number rule there, inl (λ before here. none before (rule_in before rule here))))
  root_flagged number rule there (inr (inl (before, here, inl flagged))) = flagged_if number before rule there here (inl flagged)
  root_flagged number rule there (inr (inl (before, here, inr no_run))) = flagged_if number before rule there here (inl (by (is_flagged g before) refl))
    where
      by : (b : Bool) → is_flagged g before ≡ b → b ≡ true
      by true flagged = refl
      by false unflagged =
          let has = has_run next language known g kept before rule (record { here = here; unflagged = unflagged }) in
          absurd (none-some has.0 (sym no_run ∙ has.1))
  root_flagged number rule there (inr (inr (before, run, has, inr told))) =
      flagged_if number before rule there has.same (inr (inr (rule, run, rule_out before rule has.same, run_out before run has.run_of, subst (λ (s : Sources). AskedTurned (source g) s rule run) (sym sources_are) told)))
  root_flagged number rule there (inr (inr (before, run, has, inl changed))) =
      flagged_if number before rule there has.same (inr (inl (rule, run, rule_out before rule has.same, run_out before run has.run_of, touched changed)))
    where
      touched : IsChanged tree rule run
          → ((path : Names) × (given : Option Stamp) × (Contains run.asks (path, given) × (writes rule path ≡ false)) × (given ≢ finite.get scanned.seen path)) ⊎ ((path : Names) × (given : Stamp) × Contains run.writes (path, given) × (Some given ≢ finite.get scanned.seen path))
      touched (inl (path, given, asked, apart)) = inl (path, given, asked, λ e. apart (e ∙ as_seen path))
      touched (inr (path, given, wrote, apart)) = inr (path, given, wrote, λ e. apart (e ∙ as_seen path))

  over_flagged : (reads number : ℕ) → ReachedOver reads g tree rules number → is_flagged swapped number ≡ true
  over_flagged zero number (rule, there, root) = root_flagged number rule there root
  over_flagged (suc reads) number (rule, other, maker, before, run, path, given, there, has, asked, maker_there, wrote, over) =
      let here = stands scanned swapped fresh gone rules swap number rule there in
      swap_upward scanned swapped fresh gone rules swap (scan_upward g scanned files config scan) other number maker rule run path given
      (stands scanned swapped fresh gone rules swap other maker maker_there) (over_flagged reads other over) here
      (swap.kept_runs number before rule here (was_at before rule has.same) ∙ run_out before run has.run_of) asked wrote

  pub reached_flagged : (number : ℕ) → IsReached g tree rules number → is_flagged swapped number ≡ true
  reached_flagged number (reads, over) = over_flagged reads number over
