-- The files of the core while a run goes on: what is an output of no pending rule stays, and what a rule that ended Good wrote.
use Rattle.std.proofs.Common.{◌≡◌, ◌⊎◌, inl, inr, ⊎_elim, ℕ, zero, suc, Bool, true, false, cond, ◌||◌, List, [], ◌∷◌, ◌++◌, fold, map, Option, Some, Contains, refl, sym, ap, subst, ◌∙◌, arith}
use Rattle.std.specs.FinMap as finite
use Rattle.std.specs.List.{AllByRecursion, IsDistinct}
use Rattle.std.proofs.lemmas.Bool.{true≢false}
use Rattle.tup_path.specs.Name.{Names, Content}
use Rattle.tup_path.specs.Order.{by_names, by_names-total, same_path, same_path-by_names}
use Rattle.tup_path.proofs.Same.{same_path-decides}
use Rattle.tup_stamp.specs.declared.Stamp.{Stamp}
use Rattle.tup_rule.specs.Rule.{among, writes}
use Rattle.tup_rule.specs.declared.rule.Rule.{Rule}
use Rattle.tup_runner.specs.Next.{Next}
use Rattle.tup_access.specs.declared.verdict.Verdict.{Verdict}
use Rattle.tup_access.specs.declared.verdict.Verdict.TheVariants.{Good}
use Rattle.tup_core.specs.declared.event.CoreEvent.{CoreEvent}
use Rattle.tup_core.specs.declared.event.CoreEvent.TheVariants.{Claim, Ask, Deny, Finish, Stop}
use Rattle.tup_core.specs.declared.plan.Plan.{Plan}
use Rattle.tup_core.specs.declared.running.Running.{Running}
use Rattle.tup_core.specs.Honest.{EndsHonestly, IsHonest}
use Rattle.tup_core.specs.Run.{IsRun, end_of}
use Rattle.tup_core.specs.Step.{IsEnabled, Runs, State, after, emptied, ended, with_stamps}
use Rattle.tup_core.proofs.Changed.{changed_here, false_behind, with_stamps_apart}
use Rattle.tup_core.proofs.Orderly.{IsOrderly, finished_is, orderly_after, pending_shrinks}
use Rattle.tup_core.proofs.Standing.{files_ended, writes_own}
use Rattle.tup_board.specs.Outputs.{IsPending, Makes}

-- ---- parts of a run
pub run_front : (plan : Plan) (before more : List CoreEvent) (at : State) → IsRun plan at (before ++ more) → IsRun plan at before
run_front plan [] more at run = tt
run_front plan (event ∷ before) more at (enabled, run) = (enabled, run_front plan before more (after plan at event) run)

pub run_behind : (plan : Plan) (before more : List CoreEvent) (at : State) → IsRun plan at (before ++ more) → IsRun plan (end_of plan at before) more
run_behind plan [] more at run = run
run_behind plan (event ∷ before) more at (enabled, run) = run_behind plan before more (after plan at event) run

pub honest_at : (next : Next) (known : List Content) (plan : Plan) (before more : List CoreEvent) (seat : ℕ) (given : Verdict) (written : List (Names × Stamp)) (at : State)
    → IsHonest next known plan at (before ++ Finish seat given written ∷ more)
    → (running : Running) (rule : Rule) → Runs plan (end_of plan at before) seat running rule → EndsHonestly next known rule running running.denied given written
honest_at next known plan [] more seat given written at honest = honest.0
honest_at next known plan (Claim s rule ∷ before) more seat given written at honest = honest_at next known plan before more seat given written (after plan at (Claim s rule)) honest
honest_at next known plan (Ask s text answer ∷ before) more seat given written at honest = honest_at next known plan before more seat given written (after plan at (Ask s text answer)) honest
honest_at next known plan (Deny s text verdict ∷ before) more seat given written at honest = honest_at next known plan before more seat given written (after plan at (Deny s text verdict)) honest
honest_at next known plan (Finish s verdict files ∷ before) more seat given written at honest =
    honest_at next known plan before more seat given written (after plan at (Finish s verdict files)) honest.1
honest_at next known plan (Stop s cause ∷ before) more seat given written at honest = honest_at next known plan before more seat given written (after plan at (Stop s cause)) honest

-- a rule that isn't pending isn't any more
pub pending_gone : (plan : Plan) (events : List CoreEvent) (at : State) (number : ℕ) → IsRun plan at events → at.pending number ≡ false → (end_of plan at events).pending number ≡ false
pending_gone plan [] at number run off = off
pending_gone plan (event ∷ events) at number (enabled, run) off =
    pending_gone plan events (after plan at event) number run (false_behind (at.pending number) ((after plan at event).pending number) (λ now. pending_shrinks plan at event enabled number now) off)

-- ---- files
module _ (plan : Plan) (path : Names) where
  abbrev IsFree : State → Type 0
  IsFree at = IsPending plan at path → ⊥

  free_on : (at : State) (event : CoreEvent) → IsEnabled plan at event → IsFree at → IsFree (after plan at event)
  free_on at event enabled free (number, pending, makes) = free (number, pending_shrinks plan at event enabled number pending, makes)

  file_stays : (at : State) (event : CoreEvent) → IsOrderly plan at → IsEnabled plan at event → IsFree at → (after plan at event).files path ≡ at.files path
  file_stays at (Claim seat rule) orderly enabled free = refl
  file_stays at (Ask seat text answer) orderly enabled free = refl
  file_stays at (Deny seat text verdict) orderly enabled free = refl
  file_stays at (Finish seat given written) orderly (running, rule, runs, fits) free =
      ap (λ (s : State). s.files path) (finished_is plan at seat running given written runs.here) ∙ by (writes rule path) refl
    where
      by : (own : Bool) → writes rule path ≡ own → (ended plan (emptied at seat) running.rule given written).files path ≡ at.files path
      by true own = absurd (free (running.rule, orderly.pending seat running runs.here, record { rule = rule; here = runs.placed; output = own }))
      by false other = files_ended plan (emptied at seat) running.rule given written path (writes_own rule running.denied given written fits path other)
  file_stays at (Stop seat cause) orderly enabled free = refl

  -- a file that no pending rule makes stays to the end
  pub files_stay : (events : List CoreEvent) (at : State) → IsOrderly plan at → IsRun plan at events → IsFree at → (end_of plan at events).files path ≡ at.files path
  files_stay [] at orderly run free = refl
  files_stay (event ∷ events) at orderly (enabled, run) free =
      files_stay events (after plan at event) (orderly_after plan at event orderly enabled) run (free_on at event enabled free) ∙ file_stays at event orderly enabled free

  -- and one that a rule wrote which ended Good
  pub files_written : (more : List CoreEvent) (at : State) (seat : ℕ) (running : Running) (rule : Rule) (written : List (Names × Stamp)) → IsOrderly plan at → Runs plan at seat running rule
      → IsRun plan at (Finish seat Good written ∷ more) → ((number : ℕ) → Makes plan number path → number ≡ running.rule)
      → (end_of plan (after plan at (Finish seat Good written)) more).files path ≡ with_stamps at.files written path
  files_written more at seat running rule written orderly runs (enabled, run) one =
      files_stay more (after plan at (Finish seat Good written)) (orderly_after plan at (Finish seat Good written) orderly enabled) run free
      ∙ ap (λ (s : State). s.files path) (finished_is plan at seat running Good written runs.here)
    where
      gone : (after plan at (Finish seat Good written)).pending running.rule ≡ false
      gone = ap (λ (s : State). s.pending running.rule) (finished_is plan at seat running Good written runs.here) ∙ changed_here at.pending running.rule false

      free : IsFree (after plan at (Finish seat Good written))
      free (number, pending, makes) = true≢false (sym pending ∙ ap (after plan at (Finish seat Good written)).pending (one number makes) ∙ gone)

-- ---- stamps that are put one after another
abbrev named : List (Names × Stamp) → List Names
named files = map (λ (file : Names × Stamp). file.0) files

-- an element is the first one, or one behind it
first_or_behind : {X : Type 0} (first : X) (more : List X) (x : X) → Contains (first ∷ more) x → (first ≡ x) ⊎ Contains more x
first_or_behind first more x (zero, less, is) = inl is
first_or_behind first more x (suc at, less, is) = inr (at, (let within = less in omega (arith, within)), is)

-- a path that is among those written has the stamp of one of these files
pub stamp_written : (written : List (Names × Stamp)) (files : Names → Option Stamp) (q : Names) → among q (named written) ≡ true
    → (file : Names × Stamp) × Contains written file × (file.0 ≡ q) × (with_stamps files written q ≡ Some file.1)
stamp_written [] files q own = absurd (let wrong : false ≡ true = own in cc)
stamp_written (file ∷ more) files q own =
    by (λ there. stamp_written more (λ other. cond (same_path other file.0) (Some file.1) (files other)) q there) (among q (named more)) refl (same_path q file.0) refl own
  where
    put : Names → Option Stamp
    put other = cond (same_path other file.0) (Some file.1) (files other)

    behind : (f : Names × Stamp) × Contains more f × (f.0 ≡ q) × (with_stamps put more q ≡ Some f.1) → (f : Names × Stamp) × Contains (file ∷ more) f × (f.0 ≡ q) × (with_stamps put more q ≡ Some f.1)
    behind (f, (at, less, is), here, value) = (f, (suc at, (let within = less in omega (arith, within)), is), here, value)

    by : (among q (named more) ≡ true → (f : Names × Stamp) × Contains more f × (f.0 ≡ q) × (with_stamps put more q ≡ Some f.1)) → (later : Bool) → among q (named more) ≡ later → (now : Bool)
        → same_path q file.0 ≡ now → (now || later) ≡ true → (f : Names × Stamp) × Contains (file ∷ more) f × (f.0 ≡ q) × (with_stamps put more q ≡ Some f.1)
    by found true there now is both = behind (found there)
    by found false none true is both =
        (file, (zero, omega arith, refl), sym ((same_path-decides q file.0).0 is), with_stamps_apart more put q none ∙ ap (λ (b : Bool). cond b (Some file.1) (files q)) is)
    by found false none false is both = absurd (let wrong : false ≡ true = both in cc)

-- where no path stands twice, a path has one file
module _ where
  none_named : (q : Names) (files : List (Names × Stamp)) (file : Names × Stamp) → AllByRecursion (λ path. same_path q path ≡ false) (named files) → Contains files file → same_path q file.0 ≡ false
  none_named q [] file all (at, less, is) = absurd (let within = less in omega (arith, within))
  none_named q (first ∷ files) file all there =
      ⊎_elim (λ same. subst (λ (f : Names × Stamp). same_path q f.0 ≡ false) same all.0) (λ more. none_named q files file all.1 more) (first_or_behind first files file there)

  pub one_file : (files : List (Names × Stamp)) → IsDistinct same_path (named files) → (one other : Names × Stamp) → Contains files one → Contains files other → one.0 ≡ other.0 → one ≡ other
  unfolding IsDistinct
  one_file [] once one other (at, less, is) theirs same = absurd (let within = less in omega (arith, within))
  one_file (first ∷ files) once one other mine theirs same =
      by (λ a b. one_file files once.1 one other a b same) (first_or_behind first files one mine) (first_or_behind first files other theirs)
    where
      apart : (a b : Names × Stamp) → first ≡ a → Contains files b → a.0 ≡ b.0 → ⊥
      apart a b is there equal =
          true≢false (sym ((same_path-decides first.0 b.0).1 (ap (λ (f : Names × Stamp). f.0) is ∙ equal)) ∙ none_named first.0 files b once.0 there)

      by : (Contains files one → Contains files other → one ≡ other) → (first ≡ one) ⊎ Contains files one → (first ≡ other) ⊎ Contains files other → one ≡ other
      by behind (inl a) (inl b) = sym a ∙ b
      by behind (inl a) (inr b) = absurd (apart one other a b same)
      by behind (inr a) (inl b) = absurd (apart other one b a (sym same))
      by behind (inr a) (inr b) = behind a b

pub contains_name : (files : List (Names × Stamp)) (file : Names × Stamp) → Contains files file → Contains (named files) file.0
contains_name [] file (at, less, is) = absurd (let within = less in omega (arith, within))
contains_name (first ∷ files) file there =
    ⊎_elim (λ same. (zero, omega arith, ap (λ (f : Names × Stamp). f.0) same))
    (λ more. (let found = contains_name files file more in (suc found.0, (let within = found.1 in omega (arith, within)), found.2)))
    (first_or_behind first files file there)

-- files that are put into a map one after another
pub seen_as : (files : List (Names × Stamp)) (m : finite.FinMap by_names Stamp) (q : Names)
    → finite.get (fold (λ m (file : Names × Stamp). finite.insert m file.0 file.1) m files) q ≡ with_stamps (λ (p : Names). finite.get m p) files q
seen_as [] m q = refl
seen_as (file ∷ files) m q = seen_as files (finite.insert m file.0 file.1) q ∙ ap (λ (f : Names → Option Stamp). with_stamps f files q) (λ i p. put p i)
  where
    put : (p : Names) → finite.get (finite.insert m file.0 file.1) p ≡ cond (same_path p file.0) (Some file.1) (finite.get m p)
    put p = finite.get-insert by_names-total m file.0 file.1 p ∙ ap (λ (b : Bool). cond b (Some file.1) (finite.get m p)) (sym (same_path-by_names p file.0))
