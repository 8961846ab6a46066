-- What a board by its parts does at an ask, at a refusal and at a bad end, as its callers see it.
use Rattle.std.proofs.Common.{◌≡◌, ◌≢◌, ℕ, ◌≤◌, Bool, true, false, List, [], ◌∷◌, ◌++◌, length, Option, None, Some, Result, Err, refl, sym, ap, ◌∙◌, subst}
use Rattle.std.specs.Prelude.{◌↔◌, IsSome, IsTrue, if◌then◌else◌, is_none, is_some}
use Rattle.std.specs.FinMap as finite
use Rattle.std.proofs.lemmas.Bool.{false≢true}
use Rattle.std.proofs.lemmas.Option.{same_Some}
use Rattle.tup_path.specs.Name.{Names, Content}
use Rattle.tup_stamp.specs.declared.Stamp.{Stamp}
use Rattle.tup_rule.specs.declared.rule.Rule.{Rule}
use Rattle.tup_rule.specs.Rule.{writes}
use Rattle.tup_site.specs.Crash.{GoesOn as GoesOnFrom, NoStep}
use Rattle.tup_site.specs.World.{World}
use Rattle.tup_site.specs.declared.site.Site.{Ghosts as Site}
use Rattle.tup_runner.specs.declared.runner.Runner.{Ghosts as Runner}
use Rattle.tup_access.specs.Access.{access}
use Rattle.tup_access.specs.declared.verdict.Access.{Access}
use Rattle.tup_access.specs.declared.verdict.Access.TheVariants.{Yes}
use Rattle.tup_access.specs.declared.verdict.Verdict.{Verdict}
use Rattle.tup_stored_graph.specs.Held.{Held}
use Rattle.tup_core.specs.declared.event.Cause.{Cause}
use Rattle.tup_core.specs.declared.event.Cause.TheVariants as cause_by
use Rattle.tup_core.specs.declared.event.CoreEvent.{CoreEvent}
use Rattle.tup_core.specs.declared.event.CoreEvent.TheVariants.{Finish, Stop}
use Rattle.tup_core.specs.declared.plan.Plan.{Plan}
use Rattle.tup_core.specs.declared.running.Running.{Running}
use Rattle.tup_core.specs.Step.{CanAsk, IsEnabled}
use Rattle.tup_schedule.specs.Course.{CourseState, GoesOn, RunsRule, WasDenied, now, with_events}
use Rattle.tup_rule_outputs.specs.Fault.{CountsFaults}
use Rattle.tup_rule_outputs.specs.Ground.{NamesLength, OnlyLarge, ReadsSite}
use Rattle.tup_rule_outputs.specs.Lost.{HasNodes, Lost}
use Rattle.tup_rule_outputs.specs.declared.ground.Ground.{Ground}
use Rattle.tup_rule_outputs.specs.declared.fault.BoardFault.{BoardFault}
use Rattle.tup_rule_outputs.specs.declared.fault.BoardFault.TheVariants as fault_by
use Rattle.tup_board.specs.declared.answers.Asked.{Asked}
use Rattle.tup_board.specs.Board.{BoardState, course_of, plan_of, state, with_history}
use Rattle.tup_board.specs.Calls.{Asks, AsksFor, AsksForOwn}
use Rattle.tup_board.specs.Cause.{stops_by}
use Rattle.tup_board.specs.Seen.{HasFiles}
use Rattle.tup_board.specs.Sound.{IsSound, IsTrueFault}
use Rattle.tup_board.proofs.Asking.{failed_asks, read_asks, same_rule_at, same_running}
use Rattle.tup_board.proofs.Kept.{KeepsBoard, board_at, plan_here, course_is, to_course, sound_seen, kept_more, refused_kept, site_true, large_true, full_true}
use Rattle.tup_board.specs.Seat.{is_granted}
use Rattle.tup_board.proofs.Seated.{runs_at}
use Rattle.tup_board.proofs.Stamps.{end_leaves}
use Rattle.tup_board.proofs.WasRead.{sound_read}
use Rattle.tup_board.proofs.Visiting.{counts_as, large_as, length_as, visit_true}

-- ---- what a command may ask, by what it may ask of the rule that its seat runs
module _ {S : Type 0} (b : BoardState S) (seat : ℕ) (text : List ℕ) where
  pub asks_for : (it : RunsRule (course_of b) seat) (rule : Rule) (path : Names) → ((any : RunsRule (course_of b) seat) → rule ≡ any.rule)
      → access (plan_of b).rules it.rule (length it.running.asks) text ≡ Yes path → writes rule path ≡ false → AsksFor b seat text path
  asks_for it rule path is may other = record { it = it; may = may; foreign = ap (λ (r : Rule). writes r path) (sym (is it)) ∙ other }

  pub asks_for_own : (it : RunsRule (course_of b) seat) (rule : Rule) (path : Names) → ((any : RunsRule (course_of b) seat) → rule ≡ any.rule)
      → access (plan_of b).rules it.rule (length it.running.asks) text ≡ Yes path → writes rule path ≡ true → AsksForOwn b seat text
  asks_for_own it rule path is may own = record { it = it; path = path; may = may; own = ap (λ (r : Rule). writes r path) (sym (is it)) ∙ own }

  -- what may happen then
  pub can_ask : (path : Names) (it : GoesOn (course_of b) seat) (found : Option Stamp) → AsksFor b seat text path → found ≡ (state b).files path → CanAsk (plan_of b) (state b) seat text found
  can_ask path goes found for_it is = (
    goes.it.running,
    goes.it.rule,
    path,
    goes.it.runs,
    goes.granted,
    ap (λ (r : Rule). access (plan_of b).rules r (length goes.it.running.asks) text) (same_rule_at (course_of b) seat goes.it for_it.it)
        ∙ ap (λ (r : Running). access (plan_of b).rules for_it.it.rule (length r.asks) text) (same_running (course_of b) seat goes.it for_it.it) ∙ for_it.may,
    is ∙ sym (ap (λ (own : Bool). if own then None else (state b).files path) (ap (λ (r : Rule). writes r path) (same_rule_at (course_of b) seat goes.it for_it.it) ∙ for_it.foreign)),
  )

  pub can_ask_own : (it : GoesOn (course_of b) seat) → AsksForOwn b seat text → CanAsk (plan_of b) (state b) seat text None
  can_ask_own goes for_it = (
    goes.it.running,
    goes.it.rule,
    for_it.path,
    goes.it.runs,
    goes.granted,
    ap (λ (r : Rule). access (plan_of b).rules r (length goes.it.running.asks) text) (same_rule_at (course_of b) seat goes.it for_it.it)
        ∙ ap (λ (r : Running). access (plan_of b).rules for_it.it.rule (length r.asks) text) (same_running (course_of b) seat goes.it for_it.it) ∙ for_it.may,
    sym (ap (λ (own : Bool). if own then None else (state b).files for_it.path) (ap (λ (r : Rule). writes r for_it.path) (same_rule_at (course_of b) seat goes.it for_it.it) ∙ for_it.own)),
  )

-- ---- a board by its parts
module _ {S R : Type 0} (site : Site S) (runner : Runner R) (course : CourseState) (first_graph graph : Held) (first_site s : S) (lost : Option Lost)
    (given : BoardState S) (files : course.files ≡ finite.entries first_graph.nodes.seen) (sound : IsSound site runner (board_at site runner course first_graph graph first_site s lost course))
    (view : board_at site runner course first_graph graph first_site s lost course ≡ given) where
  abbrev at : CourseState → BoardState S
  at c = board_at site runner course first_graph graph first_site s lost c

  abbrev Keeps : CourseState → Type 0
  Keeps c = KeepsBoard site runner course first_graph graph first_site s lost c

  -- callers see its course
  seen_is : course ≡ course_of given
  seen_is = course_is site runner course first_graph graph first_site s lost given files sound view

  pub seats_seen : (seat : ℕ) → (now course).seats seat ≡ (state given).seats seat
  seats_seen seat = ap (λ (c : CourseState). (now c).seats seat) seen_is

  pub files_seen : (path : Names) → (now course).files path ≡ (state given).files path
  files_seen path = ap (λ (c : CourseState). (now c).files path) seen_is

  -- the stamp that the graph has seen at a path is that of the core's files
  pub stamp_seen : HasFiles lost graph.nodes course → HasNodes lost → (path : Names) (seen : Option Stamp) → seen ≡ finite.get graph.nodes.seen path → seen ≡ (state given).files path
  stamp_seen has nodes path seen is = is ∙ has.stamps nodes path ∙ files_seen path

  -- ---- what a seat runs
  pub running_seen : (seat : ℕ) (running : Running) → (now course).seats seat ≡ Some running → (it : RunsRule (course_of given) seat) → it.running ≡ running
  running_seen seat running here it = same_Some _ _ (sym it.runs.here ∙ sym (seats_seen seat) ∙ here)

  pub rule_seen : (seat : ℕ) (rule : Rule) → ((it : RunsRule course seat) → rule ≡ it.rule) → (it : RunsRule (course_of given) seat) → rule ≡ it.rule
  rule_seen seat rule is = subst (λ (c : CourseState). (it : RunsRule c seat) → rule ≡ it.rule) seen_is is

  -- a seat whose command was denied nothing runs a rule of the plan, and so does one whose command was
  abbrev runs_there : (seat : ℕ) (running : Running) → (state given).seats seat ≡ Some running → RunsRule (course_of given) seat
  runs_there seat running here =
      let kept = sound_seen site runner (board_at site runner course first_graph graph first_site s lost course) given sound view in
      let at = runs_at (plan_of given) (course_of given).files given.history kept.run kept.opening.plan.in_range seat running here in
      record { running = running; rule = at.0; runs = at.1 }

  pub goes_there : (seat : ℕ) → is_granted ((state given).seats seat) ≡ true → GoesOn (course_of given) seat
  goes_there seat granted = by ((state given).seats seat) refl granted
    where
      none_is : (o : Option (List ℕ × Verdict)) → is_none o ≡ true → o ≡ None
      none_is None e = refl
      none_is (Some denied) e = absurd (false≢true e)

      by : (runs : Option Running) → (state given).seats seat ≡ runs → is_granted runs ≡ true → GoesOn (course_of given) seat
      by None is e = absurd (false≢true e)
      by (Some running) is e = record { it = runs_there seat running is; granted = none_is running.denied e }

  pub goes_as : (seat : ℕ) (running : Running) → (now course).seats seat ≡ Some running → (is : Bool) → is ≡ is_none running.denied → IsTrue is ↔ GoesOn (course_of given) seat
  goes_as seat running here is tells = (
    λ e. goes_there seat (ap is_granted (sym (seats_seen seat) ∙ here) ∙ sym tells ∙ e),
    λ it. tells ∙ ap (λ (r : Running). is_none r.denied) (sym (running_seen seat running here it.it)) ∙ ap is_none it.granted,
  )

  pub denied_as : (seat : ℕ) (running : Running) → (now course).seats seat ≡ Some running → (is : Bool) → is ≡ is_some running.denied → IsTrue is ↔ WasDenied (course_of given) seat
  denied_as seat running here is tells = (
    λ e. by running.denied refl (sym tells ∙ e),
    λ it. tells ∙ ap (λ (r : Running). is_some r.denied) (sym (running_seen seat running here it.it)) ∙ ap is_some it.denied,
  )
    where
      by : (denied : Option (List ℕ × Verdict)) → running.denied ≡ denied → is_some denied ≡ true → WasDenied (course_of given) seat
      by None was e = absurd (false≢true e)
      by (Some (text, verdict)) was e = record { it = runs_there seat running (sym (seats_seen seat) ∙ here); text = text; verdict = verdict; denied = was }

  -- what came of it
  pub done_seen : (stopped : Option Cause) → stopped ≡ (now course).stopped → stopped ≡ None → (has : Bool) → IsTrue has ↔ ((number : ℕ) × IsSome ((now course).bad number)) → has ≡ false
      → ((state given).stopped ≡ None) × ((number : ℕ) → (state given).bad number ≡ None)
  done_seen stopped is none has both other =
      subst (λ (c : CourseState). ((now c).stopped ≡ None) × ((number : ℕ) → (now c).bad number ≡ None)) seen_is
      (sym is ∙ none, λ number. none_of ((now course).bad number) (λ some. false≢true (sym other ∙ both.1 (number, some))))
    where
      none_of : (o : Option Verdict) → (IsSome o → ⊥) → o ≡ None
      none_of None some = refl
      none_of (Some verdict) some = absurd (some refl)

  pub runs_here : (seat : ℕ) → RunsRule (course_of given) seat → RunsRule course seat
  runs_here seat it = to_course site runner course first_graph graph first_site s lost given files sound view (λ c. RunsRule c seat) it

  -- the rules of a graph that no commit lost are those of the plan
  pub rules_here : lost ≡ None → (plan : Plan) → plan ≡ plan_of given → graph.nodes.rules ≡ plan.rules
  rules_here none plan is =
      (sound.present none).come.beside.rules ∙ sym sound.opening.plan.rules
      ∙ sym (ap (λ (p : Plan). p.rules) (plan_here site runner course first_graph graph first_site s lost given files sound view plan is))

  -- what it may ask
  pub access_seen : (seat : ℕ) (rules : List Rule) (text : List ℕ) (found : Access) → ((it : RunsRule course seat) → found ≡ access rules it.rule (length it.running.asks) text)
      → (it : RunsRule (course_of given) seat) → found ≡ access rules it.rule (length it.running.asks) text
  access_seen seat rules text found is = subst (λ (c : CourseState). (it : RunsRule c seat) → found ≡ access rules it.rule (length it.running.asks) text) seen_is is

  -- what may happen there
  pub enabled_there : (event : CoreEvent) → IsEnabled (plan_of given) (state given) event → IsEnabled course.plan (now course) event
  enabled_there event enabled = to_course site runner course first_graph graph first_site s lost given files sound view (λ c. IsEnabled c.plan (now c) event) enabled

  -- ---- stops for a refusal
  pub site_kept : (seat : ℕ) (new : CourseState) → RunsRule (course_of given) seat → IsTrueFault site runner given seat fault_by.Site → new ≡ with_events course (Stop seat cause_by.Site ∷ []) → Keeps new
  site_kept seat new it holds is =
      refused_kept site runner course first_graph graph first_site s lost given files sound view seat cause_by.Site new it.runs.within (λ e. cc)
      (site_true site runner course first_graph graph first_site s lost given files sound view seat holds) is

  pub large_kept : (seat bytes : ℕ) (new : CourseState) → RunsRule (course_of given) seat → IsTrueFault site runner given seat (fault_by.TooLarge bytes) → new ≡ with_events course (Stop seat (cause_by.TooLarge bytes) ∷ []) → Keeps new
  large_kept seat bytes new it holds is =
      refused_kept site runner course first_graph graph first_site s lost given files sound view seat (cause_by.TooLarge bytes) new it.runs.within (λ e. cc)
      (large_true site runner course first_graph graph first_site s lost given files sound view seat bytes holds) is

  pub full_kept : (seat : ℕ) (new : CourseState) → RunsRule (course_of given) seat → IsTrueFault site runner given seat fault_by.Full → new ≡ with_events course (Stop seat cause_by.Full ∷ []) → Keeps new
  full_kept seat new it holds is =
      refused_kept site runner course first_graph graph first_site s lost given files sound view seat cause_by.Full new it.runs.within (λ e. cc)
      (full_true site runner course first_graph graph first_site s lost given files sound view seat holds) is

  -- ---- a bad end
  pub bad_kept : (seat : ℕ) (verdict : Verdict) (new : CourseState) → new ≡ with_events course (Finish seat verdict [] ∷ []) → IsSound site runner (with_history given (given.history ++ Finish seat verdict [] ∷ [])) → Keeps new
  bad_kept seat verdict new is more =
      kept_more site runner course first_graph graph first_site s lost given files sound view new (Finish seat verdict []) is (end_leaves course.plan (now course) seat verdict)
      (subst (λ (b : BoardState S). IsSound site runner (with_history b (b.history ++ Finish seat verdict [] ∷ []))) (sym view) more)

-- what a site answered that couldn't read a file
abbrev found_not : BoardFault → Result (Option Content) BoardFault
found_not fault = Err fault

-- ---- a board by its parts, once its site was read
module _ {S R : Type 0} (site : Site S) (runner : Runner R) (course : CourseState) (first_graph graph : Held) (first_site s : S) (lost : Option Lost)
    (given : BoardState S) (files : course.files ≡ finite.entries first_graph.nodes.seen) (sound : IsSound site runner (board_at site runner course first_graph graph first_site s lost course))
    (view : board_at site runner course first_graph graph first_site s lost course ≡ given)
    (read : Ground S) (reads : ReadsSite site (record { site = s; graph = graph; lost = lost }) read)
    (earlier : (x : S) (t u : ℕ) (w : World) → IsTrue site.tells → t ≤ u → site.left_since x u w → site.left_since x t w) (later : site.faults s ≤ site.faults read.site) where
  abbrev before : BoardState S
  before = board_at site runner course first_graph graph first_site s lost course

  abbrev pub after_read : BoardState S
  after_read = board_at site runner course first_graph read.graph first_site read.site read.lost course

  -- only its site is another
  read_is : after_read ≡ record before { site = read.site }
  read_is =
      ap (λ (g : Held). record before { site = read.site; graph = g; lost = read.lost }) reads.graph ∙ ap (λ (l : Option Lost). record before { site = read.site; lost = l }) reads.lost

  pub read_sound : IsSound site runner after_read
  read_sound = subst (IsSound site runner) (sym read_is) (sound_read site runner before sound read.site (earlier read.site) reads.world reads.crash reads.known later)

  pub read_seen : after_read ≡ record given { site = read.site }
  read_seen = read_is ∙ ap (λ (b : BoardState S). record b { site = read.site }) view

  pub stamp_after : (path : Names) (seen : Option Stamp) → seen ≡ (state given).files path → seen ≡ (state after_read).files path
  stamp_after path seen is = is ∙ sym (ap (λ (b : BoardState S). (state b).files path) read_seen)

  site_is : given.site ≡ s
  site_is = ap (λ (b : BoardState S). b.site) (sym view)

  same_world : IsTrue site.tells → site.world read.site ≡ site.world given.site
  same_world tells = reads.world tells ∙ ap site.world (sym site_is)

  crash_since : IsTrue site.tells → GoesOnFrom site.moment site.left_since given.site read.site NoStep
  crash_since tells = subst (λ (x : S). GoesOnFrom site.moment site.left_since x read.site NoStep) (sym site_is) (reads.crash tells)

  same_known : IsTrue site.tells → site.known read.site ≡ site.known given.site
  same_known tells = reads.known tells ∙ ap site.known (sym site_is)

  pub asks_after : (seat : ℕ) (text : List ℕ) (path : Names) → AsksFor given seat text path → AsksFor after_read seat text path
  asks_after seat text path for_it =
      subst (λ (b : BoardState S). AsksFor b seat text path) (sym read_seen)
      (record { it = record { running = for_it.it.running; rule = for_it.it.rule; runs = for_it.it.runs }; may = for_it.may; foreign = for_it.foreign })

  -- ---- what was read is told
  pub told_after : (seat : ℕ) (text : List ℕ) (path : Names) → AsksFor given seat text path → (result : Result Asked BoardFault) (new : BoardState S) → site.faults read.site ≡ site.faults s → Asks site seat text after_read result new
      → Asks site seat text given result new
  told_after seat text path for_it result new steady asks =
      read_asks site given seat text path for_it read.site same_world crash_since same_known result new (earlier read.site) (steady ∙ ap site.faults (sym site_is))
      (subst (λ (b : BoardState S). Asks site seat text b result new) read_seen asks)

  -- ---- or a refusal
  module _ (seat : ℕ) (text : List ℕ) (path : Names) (for_it : AsksFor given seat text path) (fault : BoardFault) (other : fault ≢ fault_by.Full)
      (large : OnlyLarge (found_not fault)) (named : IsTrue site.tells → NamesLength (site.world s).tree path (found_not fault)) (counts : CountsFaults (site.faults s) (site.faults read.site) None (found_not fault)) where
    named_there : IsTrue site.tells → NamesLength (site.world given.site).tree path (found_not fault)
    named_there tells = subst (λ (x : S). NamesLength (site.world x).tree path (found_not fault)) (sym site_is) (named tells)

    counts_there : CountsFaults (site.faults given.site) (site.faults read.site) None (found_not fault)
    counts_there = subst (λ (x : S). CountsFaults (site.faults x) (site.faults read.site) None (found_not fault)) (sym site_is) counts

    pub fault_true : IsTrueFault site runner after_read seat fault
    fault_true =
        subst (λ (b : BoardState S). IsTrueFault site runner b seat fault) (sym read_seen)
        (visit_true site runner given (sound_seen site runner before given sound view) seat text path for_it read.site fault other same_world large named_there counts_there)

    pub fault_after : Asks site seat text given (Err fault) (with_history after_read (after_read.history ++ stops_by seat fault))
    fault_after =
        subst (λ (b : BoardState S). Asks site seat text given (Err fault) (with_history b (b.history ++ stops_by seat fault))) (sym read_seen)
        (failed_asks site given seat text path for_it read.site same_world crash_since same_known fault other (large_as fault large)
        (λ tells. length_as (site.world given.site).tree path fault (named_there tells)) (counts_as (site.faults given.site) (site.faults read.site) fault counts_there))
