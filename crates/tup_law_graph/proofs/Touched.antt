-- After a scan alone just the rules that are reached are flagged.
use Rattle.std.specs.Prelude.{◌≡◌, ◌≢◌, ◌⊎◌, ◌<◌, ℕ, zero, suc, Bool, true, false, List, [], ◌∷◌, Option, None, Some, Contains, length, slice_get}
use Rattle.std.proofs.Common.{refl, sym, subst, ◌∙◌, inl, inr, arith}
use Rattle.std.specs.FinMap as finite
use Rattle.std.proofs.lemmas.Bool.{ltb-true}
use Rattle.std.proofs.lemmas.Option.{none-some}
use Rattle.tup_path.specs.Name.{Names, Content}
use Rattle.tup_path.specs.Tree.{Tree}
use Rattle.tup_stamp.specs.declared.Stamp.{Stamp}
use Rattle.tup_rule.specs.Rule.{writes}
use Rattle.tup_rule.specs.declared.rule.Rule.{Rule}
use Rattle.tup_runner.specs.Next.{Next}
use Rattle.tup_record.specs.declared.run.RunRecord.{RunRecord}
use Rattle.tup_graph.specs.Above.{AboveOver}
use Rattle.tup_graph.specs.Answers.{Sources}
use Rattle.tup_graph.specs.Graph.{GraphState, is_flagged, is_rule, source}
use Rattle.tup_graph.specs.Kept.{IsKept, IsRuleAt}
use Rattle.tup_graph.specs.Reach.{source_in, stamp_in, HasRecord, IsChanged, IsReachRoot, ReachedOver, IsReached}
use Rattle.tup_graph.specs.Records.{Language}
use Rattle.tup_graph.specs.Scan.{BeginsAt, IsScanned, IsTouched}
use Rattle.tup_graph.specs.Turned.{AskedTurned}
use Rattle.tup_graph.proofs.Keeping.{has_run}
use Rattle.tup_closure.specs.Readers.{AreRunsOfRules}
use Rattle.tup_law_graph.specs.Linking.{HaveOwnNames}
use Rattle.tup_law_graph.proofs.Scanning.{scan_upward}
use Rattle.tup_law_graph.proofs.Turning.{sources_seen}

-- the rule of a number that is one
rule_there : (rules : List Rule) (number : ℕ) → number < length rules → (rule : Rule) × (slice_get rules number ≡ Some rule)
rule_there [] number less = absurd (omega (arith, less))
rule_there (first ∷ rules) zero less = (first, refl)
rule_there (first ∷ rules) (suc number) less = rule_there rules number (omega (arith, less))

module _ (next : Next) (language : Language) (known : List Content) (g scanned : GraphState) (files : List (Names × Stamp)) (config : Option Content) (tree : Tree)
    (kept : IsKept next language known g) (scan : IsScanned g files config scanned) (as_seen : (path : Names) → finite.get scanned.seen path ≡ stamp_in tree path) (own_names : HaveOwnNames g.rules) where
  abbrev Root : ℕ → Type 0
  Root = BeginsAt g scanned

  -- rules and records are those of the graph that was kept
  rule_in : (number : ℕ) (rule : Rule) → IsRuleAt scanned number rule → IsRuleAt g number rule
  rule_in number rule here = subst (λ (l : List Rule). slice_get l number ≡ Some rule) scan.rules here

  rule_out : (number : ℕ) (rule : Rule) → IsRuleAt g number rule → IsRuleAt scanned number rule
  rule_out number rule here = subst (λ (l : List Rule). slice_get l number ≡ Some rule) (sym scan.rules) here

  run_in : (number : ℕ) (run : RunRecord) → finite.get scanned.runs number ≡ Some run → finite.get g.runs number ≡ Some run
  run_in number run ran = sym (λ i. finite.get (scan.runs i) number) ∙ ran

  run_out : (number : ℕ) (run : RunRecord) → finite.get g.runs number ≡ Some run → finite.get scanned.runs number ≡ Some run
  run_out number run ran = (λ i. finite.get (scan.runs i) number) ∙ ran

  -- the sources that are seen are those in the tree
  sources_are : source scanned ≡ source_in g tree
  sources_are = sources_seen g scanned tree scan.owned as_seen

  -- a rule has one number
  one_number : (number other : ℕ) (rule : Rule) → IsRuleAt g number rule → IsRuleAt g other rule → number ≡ other
  one_number number other rule here there = own_names number other rule rule here there refl

  -- ---- what is flagged is reached
  module _ (flags : (at : ℕ) → is_flagged g at ≡ true → is_rule g at ≡ true) (runs : AreRunsOfRules g) where
    rule_of : (number : ℕ) → is_rule g number ≡ true → (rule : Rule) × IsRuleAt g number rule
    rule_of number is = rule_there g.rules number (ltb-true number (length g.rules) is)

    touched_reached : (number : ℕ) (rule : Rule) (run : RunRecord) → IsRuleAt scanned number rule → finite.get scanned.runs number ≡ Some run
        → (((path : Names) × (given : Option Stamp) × (Contains run.asks (path, given) × (writes rule path ≡ false)) × (given ≢ finite.get scanned.seen path))
        ⊎ ((path : Names) × (given : Stamp) × Contains run.writes (path, given) × (Some given ≢ finite.get scanned.seen path)))
        → IsReached g tree g.rules number
    touched_reached number rule run here ran what =
        (zero, (rule, rule_in number rule here, inr (inr (number, run, record { same = rule_in number rule here; run_of = run_in number run ran }, inl (changed what)))))
      where
        changed : ((path : Names) × (given : Option Stamp) × (Contains run.asks (path, given) × (writes rule path ≡ false)) × (given ≢ finite.get scanned.seen path))
            ⊎ ((path : Names) × (given : Stamp) × Contains run.writes (path, given) × (Some given ≢ finite.get scanned.seen path)) → IsChanged tree rule run
        changed (inl (path, given, asked, apart)) = inl (path, given, asked, λ e. apart (e ∙ sym (as_seen path)))
        changed (inr (path, given, wrote, apart)) = inr (path, given, wrote, λ e. apart (e ∙ sym (as_seen path)))

    turned_reached : (number : ℕ) (rule : Rule) (run : RunRecord) → IsRuleAt scanned number rule → finite.get scanned.runs number ≡ Some run → AskedTurned (source g) (source scanned) rule run → IsReached g tree g.rules number
    turned_reached number rule run here ran told =
        (zero, (rule, rule_in number rule here, inr (inr (number, run, record { same = rule_in number rule here; run_of = run_in number run ran }, inr (subst (λ (s : Sources). AskedTurned (source g) s rule run) sources_are told)))))

    above_reached : (reads number : ℕ) → AboveOver reads scanned Root number → IsReached g tree g.rules number
    above_reached zero number (inl flagged) = (let it = rule_of number (flags number flagged) in (zero, (it.0, it.1, inr (inl (number, it.1, inl flagged)))))
    above_reached zero number (inr (inl (rule, run, here, ran, what))) = touched_reached number rule run here ran what
    above_reached zero number (inr (inr (rule, run, here, ran, told))) = turned_reached number rule run here ran told
    above_reached (suc reads) number (before, maker, over, maker_here, (path, (run, given, ran, asked), wrote)) =
        let ran_in = run_in number run ran in
        let it = rule_of number (runs number run ran_in) in
        let below = above_reached reads before over in
        (suc below.0, (it.0, before, maker, number, run, path, given, it.1, record { same = it.1; run_of = ran_in }, asked, rule_in before maker maker_here, wrote, below.1))

    pub scan_reached : (number : ℕ) → is_flagged scanned number ≡ true → IsReached g tree g.rules number
    scan_reached number flagged = (let up = (scan.flags number).0 flagged in above_reached up.0 number up.1)

  -- ---- what is reached is flagged
  root_flags : (number : ℕ) → Root number → is_flagged scanned number ≡ true
  root_flags number root = (scan.flags number).1 (zero, root)

  -- without a record it was flagged
  unrun_flagged : (number : ℕ) (rule : Rule) → IsRuleAt g number rule → finite.get g.runs number ≡ None → is_flagged g number ≡ true
  unrun_flagged number rule here no_run = by (is_flagged g number) refl
    where
      by : (b : Bool) → is_flagged g number ≡ b → b ≡ true
      by true flagged = refl
      by false unflagged =
          let has = has_run next language known g kept number rule (record { here = here; unflagged = unflagged }) in
          absurd (none-some has.0 (sym no_run ∙ has.1))

  changed_touched : (number : ℕ) (rule : Rule) (run : RunRecord) → HasRecord g rule number run → IsChanged tree rule run → IsTouched scanned number
  changed_touched number rule run has changed = (rule, run, rule_out number rule has.same, run_out number run has.run_of, touched changed)
    where
      touched : IsChanged tree rule run
          → ((path : Names) × (given : Option Stamp) × (Contains run.asks (path, given) × (writes rule path ≡ false)) × (given ≢ finite.get scanned.seen path))
          ⊎ ((path : Names) × (given : Stamp) × Contains run.writes (path, given) × (Some given ≢ finite.get scanned.seen path))
      touched (inl (path, given, asked, apart)) = inl (path, given, asked, λ e. apart (e ∙ as_seen path))
      touched (inr (path, given, wrote, apart)) = inr (path, given, wrote, λ e. apart (e ∙ as_seen path))

  flags_at : (number other : ℕ) (rule : Rule) → IsRuleAt g number rule → IsRuleAt g other rule → is_flagged scanned other ≡ true → is_flagged scanned number ≡ true
  flags_at number other rule here there flagged = subst (λ (n : ℕ). is_flagged scanned n ≡ true) (one_number other number rule there here) flagged

  root_flagged : (number : ℕ) (rule : Rule) → IsRuleAt g number rule → IsReachRoot g tree rule → is_flagged scanned number ≡ true
  root_flagged number rule here (inl none) = absurd (none number here)
  root_flagged number rule here (inr (inl (other, there, inl flagged))) = flags_at number other rule here there (root_flags other (inl flagged))
  root_flagged number rule here (inr (inl (other, there, inr no_run))) = flags_at number other rule here there (root_flags other (inl (unrun_flagged other rule there no_run)))
  root_flagged number rule here (inr (inr (other, run, has, inl changed))) = flags_at number other rule here has.same (root_flags other (inr (inl (changed_touched other rule run has changed))))
  root_flagged number rule here (inr (inr (other, run, has, inr told))) =
      flags_at number other rule here has.same
      (root_flags other (inr (inr (rule, run, rule_out other rule has.same, run_out other run has.run_of, subst (λ (s : Sources). AskedTurned (source g) s rule run) (sym sources_are) told))))

  over_flagged : (reads number : ℕ) → ReachedOver reads g tree g.rules number → is_flagged scanned number ≡ true
  over_flagged zero number (rule, here, root) = root_flagged number rule here root
  over_flagged (suc reads) number (rule, before, maker, other, run, path, given, here, has, asked, maker_here, wrote, over) =
      flags_at number other rule here has.same
      (scan_upward g scanned files config scan before other maker rule run path given (rule_out before maker maker_here) (over_flagged reads before over) (rule_out other rule has.same)
      (run_out other run has.run_of) asked wrote)

  pub reached_scan : (number : ℕ) → IsReached g tree g.rules number → is_flagged scanned number ≡ true
  reached_scan number (reads, over) = over_flagged reads number over
