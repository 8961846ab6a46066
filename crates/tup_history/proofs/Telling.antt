-- What the runners and the sink tell of a run, by what the program promises of each run.
use Rattle.std.proofs.Common.{◌≡◌, Bool, IsTrue, true, false, ℕ, List, drop, map, take, Option, Some, Ok, Err, refl, sym, ap, subst, ◌∙◌}
use Rattle.std.proofs.lemmas.List.{drop-map, take-map}
use Rattle.std.proofs.lemmas.Option.{none-some, same_Some}
use Rattle.tup_path.specs.Name.{Names}
use Rattle.tup_site.specs.World.{World}
use Rattle.tup_rule.specs.declared.rule.RuleName.{RuleName}
use Rattle.tup_runner.specs.Next.{Next}
use Rattle.tup_promise.specs.Ran.{CrewRuns}
use Rattle.tup_promise.specs.declared.log.Log.{Log}
use Rattle.tup_promise.specs.declared.stop.Stop.{Stop}
use Rattle.tup_top.specs.Crew.{CrewCompares, NothingRun}
use Rattle.tup_top.specs.Order.{Wanted, used}
use Rattle.tup_top.specs.Printed.{Printed}
use Rattle.tup_top.specs.Promise.{ForUpdate, ForVerify}
use Rattle.tup_top.specs.Status.{log_of_todo, status_of_todo}
use Rattle.tup_top.specs.declared.order.Order.TheVariants.{Init, Upd, Todo, Verify, Demo}
use Rattle.tup_top.specs.declared.status.Status.{Status}
use Rattle.tup_top.proofs.Causes.{says_less}
use Rattle.tup_history.specs.Telling.{HasRun, told_by}

-- what is told is so, and is told only where it is
pub told_so : {A : Type 0} (tells : Bool) (value told : A) → told_by tells value ≡ Some told → IsTrue tells × (value ≡ told)
told_so true value told is = (refl, same_Some value told is)
told_so false value told is = absurd (none-some told is)

-- ---- what was run
-- by what each runner of a crew tells
pub has_run : {R : Type 0} (told_of : R → List (Names × List ℕ)) (crew left : List R) (tells : Bool) (next : Next) (wanted : Wanted) (many : ℕ) (old : World) (before now : List (List (Names × List ℕ))) (status : Status) (ran : List RuleName)
    → map told_of crew ≡ before → map told_of left ≡ now → ForUpdate wanted status (CrewRuns ran (map told_of (take (used wanted many) crew)) (map told_of (take (used wanted many) left))) → (IsTrue tells → ForVerify wanted status (CrewCompares next old (map told_of crew) (map told_of left)))
    → drop (used wanted many) left ≡ drop (used wanted many) crew → NothingRun wanted crew left ran → HasRun tells next wanted many old before now status ran
has_run told_of crew left tells next wanted many old before now status ran was is runs compares others nothing =
    let jobs = used wanted many in
    subst (λ (l : List (List (Names × List ℕ))). HasRun tells next wanted many old l now status ran) was
    (subst (λ (l : List (List (Names × List ℕ))). HasRun tells next wanted many old (map told_of crew) l status ran) is (record {
      update = subst (λ (l : List (List (Names × List ℕ))). ForUpdate wanted status (CrewRuns ran l (take jobs (map told_of left)))) (sym (take-map told_of jobs crew))
          (subst (λ (l : List (List (Names × List ℕ))). ForUpdate wanted status (CrewRuns ran (map told_of (take jobs crew)) l)) (sym (take-map told_of jobs left)) runs);
      compared = compares;
      others = drop-map told_of jobs left ∙ ap (map told_of) others ∙ sym (drop-map told_of jobs crew);
      nothing = λ none. ap (map told_of) (nothing.runners none);
    }))

-- ---- what was printed
-- the lines of a run, of whose log and reporters less is said
pub prints_less : (jobs : ℕ) (site runner : Bool) (kept : Type 0) (says : Bool → Log → List (Option (List ℕ)) → Type 0) (J L : Log → Option Stop → Type 0) (H I : Log → Status → Status → Type 0) → ((log : Log) (stopped : Option Stop) → J log stopped → L log stopped)
    → ((log : Log) (came status : Status) → H log came status → I log came status) → (wanted : Wanted) (next : Next) (old new : World) (ran : List RuleName) (before now : ℕ) (held holds : List ℕ) (answer : Status)
    → Printed jobs site runner kept says J H wanted next old new ran before now held holds answer → Printed jobs site runner kept says L I wanted next old new ran before now held holds answer
prints_less jobs site runner kept says J L H I on hears (Ok (Upd program keep_going quiet verbose explain number log)) next old new ran before now held holds answer prints =
    says_less jobs site keep_going (says explain) (says explain) J L H I old old new ran before now held holds answer refl prints (λ log chains said. said) on hears
prints_less jobs site runner kept says J L H I on hears (Ok Init) next old new ran before now held holds answer prints = prints
prints_less jobs site runner kept says J L H I on hears (Ok Todo) next old new ran before now held holds answer prints = record {
  todo = prints.todo;
  lists = prints.lists;
  status = prints.status;
  heard = hears (log_of_todo prints.todo) (status_of_todo prints.todo) prints.status prints.heard;
  ends = prints.ends;
  prints = prints.prints;
}
prints_less jobs site runner kept says J L H I on hears (Ok Verify) next old new ran before now held holds answer prints = prints
prints_less jobs site runner kept says J L H I on hears (Ok Demo) next old new ran before now held holds answer prints = prints
prints_less jobs site runner kept says J L H I on hears (Err place) next old new ran before now held holds answer prints = prints
