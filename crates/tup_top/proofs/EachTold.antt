-- The events of an update tell each of its rules.
use Rattle.std.proofs.Common.{◌≡◌, ℕ, List, [], ◌∷◌, ◌++◌, map, None, Some, refl, sym, ap, subst, ◌∙◌}
use Rattle.std.specs.Prelude.{filter}
use Rattle.tup_path.specs.Name.{Names}
use Rattle.tup_site.specs.declared.fault.SiteFailed.TheVariants.{Fault, TooLarge, Memory}
use Rattle.tup_rule.specs.declared.rule.RuleName.{RuleName}
use Rattle.tup_tell.specs.Told.{is_ended, is_started}
use Rattle.tup_tell.specs.declared.event.Event.{Event}
use Rattle.tup_tell.specs.declared.event.Event.TheVariants.{Read, Removed, Started}
use Rattle.tup_phases.specs.Logged.{AreBegun, EndsFirst, ended_rules}
use Rattle.tup_promise.specs.Interleaved.{Interleave}
use Rattle.tup_promise.specs.declared.log.EndedRule.{EndedRule}
use Rattle.tup_promise.specs.declared.log.Log.{Log}
use Rattle.tup_promise.specs.declared.log.Step.{Step}
use Rattle.tup_promise.specs.declared.log.Step.TheVariants.{Begin, End}
use Rattle.tup_promise.specs.declared.stop.Stop.TheVariants.{NoStore, BadStore, Sources, UserFile, Bad, Run, Full, Outside}
use Rattle.tup_top.specs.Telling.{EachIsTold, TellsEach, end_event, step_events}

-- the rules that ended
abbrev rules_of : List EndedRule → List RuleName
rules_of ended = map (λ (one : EndedRule). one.rule) ended

-- ---- events of one kind
-- events of folders and of files begin and end no rule
no_starts : (dirs paths : List Names) (rest : List Event) → filter is_started (map Read dirs ++ (map Removed paths ++ rest)) ≡ filter is_started rest
no_starts [] [] rest = refl
no_starts [] (path ∷ paths) rest = no_starts [] paths rest
no_starts (dir ∷ dirs) paths rest = no_starts dirs paths rest

no_ends : (dirs paths : List Names) (rest : List Event) → filter is_ended (map Read dirs ++ (map Removed paths ++ rest)) ≡ filter is_ended rest
no_ends [] [] rest = refl
no_ends [] (path ∷ paths) rest = no_ends [] paths rest
no_ends (dir ∷ dirs) paths rest = no_ends dirs paths rest

-- steps that interleave the begins and the ends of rules tell of each begin, and of each end that is in the log
all_starts : (jobs : ℕ) (steps : List Step) (going begun : List RuleName) (ended : List EndedRule) (left : List RuleName) → Interleave jobs going steps begun (rules_of ended ++ left)
    → filter is_started (step_events steps begun ended) ≡ map Started begun
all_starts jobs [] going [] ended left is = refl
all_starts jobs [] going (rule ∷ begun) ended left is = absurd is
all_starts jobs (Begin ∷ steps) going [] ended left is = absurd is
all_starts jobs (Begin ∷ steps) going (rule ∷ begun) ended left is = ap (λ (l : List Event). Started rule ∷ l) (all_starts jobs steps (rule ∷ going) begun ended left is.1)
all_starts jobs (End ∷ steps) going begun [] [] is = absurd is
all_starts jobs (End ∷ steps) going begun [] (rule ∷ left) is = all_starts jobs steps is.0 begun [] left is.2
all_starts jobs (End ∷ steps) going begun (one ∷ ended) left is = all_starts jobs steps is.0 begun ended left is.2

all_ends : (jobs : ℕ) (steps : List Step) (going begun : List RuleName) (ended : List EndedRule) (left : List RuleName) → Interleave jobs going steps begun (rules_of ended ++ left)
    → filter is_ended (step_events steps begun ended) ≡ map end_event ended
all_ends jobs [] going [] [] left is = refl
all_ends jobs [] going [] (one ∷ ended) left is = absurd is
all_ends jobs [] going (rule ∷ begun) ended left is = absurd is
all_ends jobs (Begin ∷ steps) going [] ended left is = absurd is
all_ends jobs (Begin ∷ steps) going (rule ∷ begun) ended left is = all_ends jobs steps (rule ∷ going) begun ended left is.1
all_ends jobs (End ∷ steps) going begun [] [] is = absurd is
all_ends jobs (End ∷ steps) going begun [] (rule ∷ left) is = all_ends jobs steps is.0 begun [] left is.2
all_ends jobs (End ∷ steps) going begun (one ∷ ended) left is = ap (λ (l : List Event). end_event one ∷ l) (all_ends jobs steps is.0 begun ended left is.2)

-- ---- those of a log
interleaved_told : (jobs : ℕ) (log : Log) (left : List RuleName) → Interleave jobs [] log.steps log.ran (ended_rules log ++ left) → TellsEach log
interleaved_told jobs log left is =
    let rest = step_events log.steps log.ran log.ended in
    record {
      started = no_starts log.read log.removed rest ∙ all_starts jobs log.steps [] log.ran log.ended left is;
      ended = no_ends log.read log.removed rest ∙ all_ends jobs log.steps [] log.ran log.ended left is;
    }

begun_told : (jobs : ℕ) (log : Log) (left others : List RuleName) → AreBegun jobs log left others → TellsEach log
begun_told jobs log left others begun = interleaved_told jobs log left begun.steps

first_told : (jobs : ℕ) (log : Log) → EndsFirst jobs log → TellsEach log
first_told jobs log first = begun_told jobs log first.left first.others first.begun

-- of no rule nothing is told
none_told : (log : Log) → log.ran ≡ [] → log.ended ≡ [] → log.steps ≡ [] → TellsEach log
none_told log ran ended steps =
    interleaved_told 0 log []
    (subst (λ (l : List Step). Interleave 0 [] l log.ran (ended_rules log ++ [])) (sym steps)
    (subst (λ (l : List RuleName). Interleave 0 [] [] l (ended_rules log ++ [])) (sym ran)
    (subst (λ (l : List EndedRule). Interleave 0 [] [] [] (rules_of l ++ [])) (sym ended) tt)))

-- ---- and of an update, by why it stopped
pub each_told : EachIsTold
each_told jobs keep_going log None is = begun_told jobs log [] [] is.begun
each_told jobs keep_going log (Some NoStore) is = none_told log is.ran is.ended is.steps
each_told jobs keep_going log (Some (BadStore offset)) is = none_told log is.ran is.ended is.steps
each_told jobs keep_going log (Some (Sources fault)) is = none_told log is.ran is.ended is.steps
each_told jobs keep_going log (Some (UserFile path written found)) is = none_told log is.1.ran is.1.ended is.1.steps
each_told jobs keep_going log (Some (Bad name verdict)) is = begun_told jobs log [] is.others is.begun
each_told jobs keep_going log (Some Run) is = first_told jobs log is.ends
each_told jobs keep_going log (Some Full) is = first_told jobs log is.ends
each_told jobs keep_going log (Some (Outside Fault)) is = first_told jobs log is.ends
each_told jobs keep_going log (Some (Outside (TooLarge bytes))) is = first_told jobs log is.ends
each_told jobs keep_going log (Some (Outside Memory)) is = first_told jobs log is
