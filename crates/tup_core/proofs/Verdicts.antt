-- An honest end over asks that stand is the verdict over every tree with the files of that moment.
use Rattle.std.proofs.Common.{◌≡◌, ℕ, suc, ◌+◌, ◌<◌, ◌≤◌, true, false, List, [], ◌∷◌, ◌++◌, length, map, Option, None, Some, Ok, refl, sym, ap, ◌∙◌, subst, inl, inr, length-append, append_assoc, arith}
use Rattle.std.specs.Prelude.{if◌then◌else◌, slice_get, All, Contains}
use Rattle.std.specs.FinMap as finite
use Rattle.std.specs.Option.{option_map}
use Rattle.std.proofs.lemmas.Bool.{cases_Bool, lt-leb}
use Rattle.std.proofs.lemmas.Option.{same_Some, none-some}
use Rattle.std.proofs.lemmas.List.{append-nil}
use Rattle.tup_path.specs.Name.{Names, Content}
use Rattle.tup_path.specs.Resolve.{resolve}
use Rattle.tup_path.specs.Tree.{Tree}
use Rattle.tup_stamp.specs.declared.Stamp.{Stamp}
use Rattle.tup_stamp.specs.Stamp.{stamp}
use Rattle.tup_rule.specs.declared.rule.Rule.{Rule}
use Rattle.tup_rule.specs.Rule.{writes}
use Rattle.tup_runner.specs.Next.{Next, Asks}
use Rattle.tup_runner.specs.Honest.{AsksJust}
use Rattle.tup_runner.specs.declared.step.Answer.{Answer}
use Rattle.tup_runner.specs.declared.step.Answer.TheVariants.{Content as Holds, Absent}
use Rattle.tup_access.specs.declared.verdict.Verdict.{Verdict}
use Rattle.tup_access.specs.declared.verdict.Access.TheVariants.{Yes, No}
use Rattle.tup_access.specs.Access.{access, may_read}
use Rattle.tup_access.specs.Judge.{Judged, bad, judge}
use Rattle.tup_access.specs.Verdict.{answer, verdict, verdict_after}
use Rattle.tup_access.proofs.Steps.{verdict_after-none, verdict_after-End, verdict_after-No, verdict_after-Yes}
use Rattle.tup_runner.proofs.Asking.{just_next}
use Rattle.tup_core.specs.declared.event.CoreEvent.{CoreEvent}
use Rattle.tup_core.specs.declared.plan.Plan.{Plan}
use Rattle.tup_core.specs.declared.running.Running.{Running}
use Rattle.tup_core.specs.Step.{State, opening, Runs, FitsEnd}
use Rattle.tup_core.specs.Run.{IsRun, end_of}
use Rattle.tup_core.specs.Sound.{HasOneMaker, Stands}
use Rattle.tup_core.specs.Honest.{IsKnown, StandsFor, AreAnswered, Answered, stamped, EndsHonestly, IsTreeOf, IsVerdictOver}
use Rattle.tup_core.proofs.Standing.{asks_stand}
use Rattle.tup_core.proofs.Counted.{IsCounted, all_counted}

-- a text that names a path that may be read may be asked for
may_ask : (rules : List Rule) (rule : Rule) (before : ℕ) (text : List ℕ) (path : Names) → before < 65535 → resolve rule.dir text ≡ Ok path → may_read rules rule path ≡ true → access rules rule before text ≡ Yes path
may_ask rules rule before text path early named readable = rw (lt-leb 65535 before early) (rw named (rw readable refl))

-- ---- one answer

-- what stands for a file's stamp is its content
content_of : (known : List Content) (tree : Tree) (path : Names) (seen : Option Stamp) (given : Answer) → IsKnown known → ((content : Content) → finite.get tree path ≡ Some content → Contains known content) →
    seen ≡ option_map stamp (finite.get tree path) → StandsFor known seen given → given ≡ elim (finite.get tree path) [ Some content ↦ Holds content | None ↦ Absent ]
content_of known tree path seen given is_known contents is stands = by (finite.get tree path) contents seen given is stands
  where
    by : (there : Option Content) → ((content : Content) → there ≡ Some content → Contains known content) → (one : Option Stamp) (other : Answer) → one ≡ option_map stamp there → StandsFor known one other →
        other ≡ elim there [ Some content ↦ Holds content | None ↦ Absent ]
    by None has None Absent e s = refl
    by None has None (Holds content) e s = absurd s
    by None has (Some seen_stamp) other e s = absurd (none-some seen_stamp (sym e))
    by (Some content) has None other e s = absurd (none-some (stamp content) e)
    by (Some content) has (Some seen_stamp) Absent e s = absurd s
    by (Some content) has (Some seen_stamp) (Holds read) e s =
        ap Holds (is_known read content s.0 (has content refl) (sym s.1 ∙ same_Some _ _ e))

-- an ask as a tree would answer it: its text names a path that may be read, and it was told the stamp of what the tree has there
pub record IsAsOver (known : List Content) (rules : List Rule) (rule : Rule) (tree : Tree) (ask : List ℕ × Option Stamp) : Type 0 where
  pub path : Names
  pub named : resolve rule.dir ask.0 ≡ Ok path
  pub readable : may_read rules rule path ≡ true
  pub same : ask.1 ≡ (if writes rule path then None else option_map stamp (finite.get tree path))
  pub contents : writes rule path ≡ false → (content : Content) → finite.get tree path ≡ Some content → Contains known content

-- an answer that stands is the tree's
answer_of : (known : List Content) (rules : List Rule) (rule : Rule) (tree : Tree) (ask : List ℕ × Option Stamp) (given : Answer) → IsKnown known → (over : IsAsOver known rules rule tree ask) →
    StandsFor known ask.1 given → given ≡ answer rule tree over.path
answer_of known rules rule tree ask given is_known over stands =
    elim (cases_Bool (writes rule over.path)) [
      | inl own ↦ rw own (absent ask.1 given (over.same ∙ rw own refl) stands)
      | inr foreign ↦ rw foreign (content_of known tree over.path ask.1 given is_known (over.contents foreign) (over.same ∙ rw foreign refl) stands)
    ]
  where
    absent : (one : Option Stamp) (other : Answer) → one ≡ None → StandsFor known one other → other ≡ Absent
    absent None Absent e s = refl
    absent None (Holds content) e s = absurd s
    absent (Some seen_stamp) other e s = absurd (none-some seen_stamp (sym e))

-- ---- all asks

follows : (next : Next) (known : List Content) (rules : List Rule) (rule : Rule) (tree : Tree) → IsKnown known →
    (seen : List (List ℕ × Option Stamp)) (given : Asks) (before : Asks) → AreAnswered known seen given → All (IsAsOver known rules rule tree) seen → AsksJust (next rule.dir rule.text) (before ++ given) → length before + length seen ≤ 65535 →
    verdict_after next rules rule tree before ≡ verdict_after next rules rule tree (before ++ given)
follows next known rules rule tree is_known [] [] before answered over just few = ap (verdict_after next rules rule tree) (sym (append-nil before))
follows next known rules rule tree is_known [] (one ∷ given) before answered over just few = absurd answered
follows next known rules rule tree is_known (ask ∷ seen) [] before answered over just few = absurd answered
follows next known rules rule tree is_known (ask ∷ seen) (one ∷ given) before (same, stands, answered) over just few =
    let does = next rule.dir rule.text in
    let asks_one = just_next does before given one just in
    let first : IsAsOver known rules rule tree ask = over 0 ask (here (length seen)) in
    let named : resolve rule.dir one.0 ≡ Ok first.path = ap (resolve rule.dir) (sym same) ∙ first.named in
    let may = may_ask rules rule (length before) one.0 first.path (room (length before) (length seen) few) named first.readable in
    let is : one.1 ≡ answer rule tree first.path = answer_of known rules rule tree ask one.1 is_known first stands in
    verdict_after-Yes next rules rule tree before one.0 first.path asks_one may
    ∙ ap (λ (reply : Answer). verdict_after next rules rule tree (before ++ (one.0, reply) ∷ [])) (sym is)
    ∙ follows next known rules rule tree is_known seen given (before ++ one ∷ []) answered (λ k d below. over (suc k) d (later k (length seen) below))
    (subst (AsksJust does) (sym (append_assoc before (one ∷ []) given)) just)
    (shift (length (before ++ one ∷ [])) (length before) (length seen) (length-append before (one ∷ [])) few)
    ∙ ap (verdict_after next rules rule tree) (append_assoc before (one ∷ []) given)
  where
    here : (n : ℕ) → 0 < suc n
    here n = omega arith

    later : (k n : ℕ) → k < n → suc k < suc n
    later k n below = omega arith

    room : (n m : ℕ) → n + suc m ≤ 65535 → n < 65535
    room n m few = omega arith

    shift : (l n m : ℕ) → l ≡ n + 1 → n + suc m ≤ 65535 → l + m ≤ 65535
    shift l n m is few = omega arith

-- a command that asked this much, as a tree would answer it, is followed over the tree from there
pub goes_to : (next : Next) (known : List Content) (rules : List Rule) (rule : Rule) (tree : Tree) → IsKnown known → (seen : List (List ℕ × Option Stamp)) (given : Asks) →
    AreAnswered known seen given → All (IsAsOver known rules rule tree) seen → AsksJust (next rule.dir rule.text) given → length seen ≤ 65535 → verdict next rules rule tree ≡ verdict_after next rules rule tree given
goes_to next known rules rule tree is_known seen given answered over just few =
    sym (verdict_after-none next rules rule tree) ∙ follows next known rules rule tree is_known seen given [] answered over just (from_none (length seen) few)
  where
    from_none : (n : ℕ) → n ≤ 65535 → 0 + n ≤ 65535
    from_none n few = omega arith

-- the answers are as many as the asks
pub as_many : (known : List Content) (seen : List (List ℕ × Option Stamp)) (given : Asks) → AreAnswered known seen given → length given ≡ length seen
as_many known [] [] answered = refl
as_many known [] (one ∷ given) answered = absurd answered
as_many known (ask ∷ seen) [] answered = absurd answered
as_many known (ask ∷ seen) (one ∷ given) (same, stands, answered) = ap suc (as_many known seen given answered)

-- ---- the end

-- what is judged so, leaves files with these stamps, and all of them are known
pub record IsEndOver (known : List Content) (judged : Judged) (given : Verdict) (written : List (Names × Stamp)) : Type 0 where
  pub verdict : judged.verdict ≡ given
  pub stamps : map stamped judged.files ≡ written
  pub contents : All (λ (file : Names × Content). Contains known file.1) judged.files

end_is : (next : Next) (known : List Content) (rules : List Rule) (rule : Rule) (running : Running) (tree : Tree) (denied : Option (List ℕ × Verdict)) (given : Verdict) (written : List (Names × Stamp)) →
    length running.asks ≤ 65535 → ((one : List ℕ × Verdict) → denied ≡ Some one → access rules rule (length running.asks) one.0 ≡ No one.1) →
    ((answered : Answered next known rule running) → verdict next rules rule tree ≡ verdict_after next rules rule tree answered.asks) →
    FitsEnd rule denied given written → EndsHonestly next known rule running denied given written → IsEndOver known (verdict next rules rule tree) given written
end_is next known rules rule running tree (Some denied) given written few refusal upto (same, none) (answered, asks_it) =
    let many = as_many known running.asks answered.asks answered.stamps in
    let refused_so : access rules rule (length answered.asks) denied.0 ≡ No denied.1 = ap (λ n. access rules rule n denied.0) many ∙ refusal denied refl in
    let is : verdict next rules rule tree ≡ bad denied.1 =
    upto answered ∙ verdict_after-No next rules rule tree answered.asks denied.0 denied.1 (subst (λ (n : ℕ). n ≤ 65535) (sym many) few) asks_it refused_so in
    subst (λ (j : Judged). IsEndOver known j given written) (sym is)
    (record { verdict = sym same; stamps = sym none; contents = λ k d below. absurd (no_place k below) })
  where
    no_place : (k : ℕ) → k < 0 → ⊥
    no_place k below = omega arith
end_is next known rules rule running tree None given written few refusal upto fits (answered, ended, ends, judged, stamps, files) =
    let many = as_many known running.asks answered.asks answered.stamps in
    let is : verdict next rules rule tree ≡ judge rule ended =
    upto answered ∙ verdict_after-End next rules rule tree answered.asks ended (subst (λ (n : ℕ). n ≤ 65535) (sym many) few) ends in
    subst (λ (j : Judged). IsEndOver known j given written) (sym is) (record { verdict = judged; stamps = stamps; contents = files })

-- an honest end over asks as a tree would answer them is its rule's verdict over the tree
pub end_over : (next : Next) (known : List Content) (plan : Plan) (rule : Rule) (running : Running) (tree : Tree) (given : Verdict) (written : List (Names × Stamp)) → IsKnown known → IsCounted plan running →
    slice_get plan.rules running.rule ≡ Some rule → All (IsAsOver known plan.rules rule tree) running.asks → FitsEnd rule running.denied given written →
    EndsHonestly next known rule running running.denied given written → IsEndOver known (verdict next plan.rules rule tree) given written
end_over next known plan rule running tree given written is_known counted placed over fits honest =
    end_is next known plan.rules rule running tree running.denied given written counted.few (λ denied is. counted.refusal rule denied placed is)
    (λ answered. goes_to next known plan.rules rule tree is_known running.asks answered.asks answered.stamps over answered.just counted.few)
    fits honest

-- asks that stand are as a tree with the files of the moment answers them
as_over : (known : List Content) (plan : Plan) (state : State) (rule : Rule) (tree : Tree) (ask : List ℕ × Option Stamp) → IsTreeOf known state.files tree → Stands plan state rule ask →
    IsAsOver known plan.rules rule tree ask
as_over known plan state rule tree ask is_tree stands = record {
  path = stands.path;
  named = stands.named;
  readable = stands.readable;
  same = stands.same ∙ ap (λ (there : Option Stamp). if writes rule stands.path then None else there) (sym (is_tree.stamps stands.path));
  contents = λ foreign content there. is_tree.contents stands.path content there;
}

pub ends_are_verdicts : (next : Next) (known : List Content) → IsKnown known → (plan : Plan) (files : List (Names × Stamp)) (events : List CoreEvent) → HasOneMaker plan → IsRun plan (opening plan files) events →
    (seat : ℕ) (running : Running) (rule : Rule) (given : Verdict) (written : List (Names × Stamp)) (tree : Tree) → Runs plan (end_of plan (opening plan files) events) seat running rule →
    FitsEnd rule running.denied given written → EndsHonestly next known rule running running.denied given written → IsTreeOf known (end_of plan (opening plan files) events).files tree →
    IsVerdictOver next plan.rules rule tree given written
ends_are_verdicts next known is_known plan files events one run seat running rule given written tree runs fits honest is_tree =
    let state = end_of plan (opening plan files) events in
    let counted = (all_counted plan files events run).each seat running runs.here in
    let stand = asks_stand plan files events one run seat running rule runs in
    let end = end_over next known plan rule running tree given written is_known counted runs.placed (λ k d below. as_over known plan state rule tree _ is_tree (stand k d below)) fits honest in
    (end.verdict, end.stamps)
