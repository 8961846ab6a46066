-- There are honest runs from planned openings: over a project with a rule that needn't be run and one that must be. A
-- command is called by the name of the file that it reads, a letter, and writes the file of the next letter.
use Rattle.std.proofs.Common.{◌≡◌, ◌≢◌, ℕ, zero, suc, ◌+◌, ◌<◌, ◌==◌, Bool, true, false, cond, ◌||◌, List, [], ◌∷◌, Option, None, Some, IsSome, refl, sym, ap, ◌∙◌, subst, inl, inr, arith}
use Rattle.std.specs.Prelude.{if◌then◌else◌, slice_get, Contains}
use Rattle.std.specs.FinMap as finite
use Rattle.std.specs.Option.{option_map}
use Rattle.std.proofs.lemmas.Bool.{true≢false, false≢true, eqb-true, false_from_ne_true}
use Rattle.std.proofs.lemmas.Option.{same_Some, none-some}
use Rattle.std.proofs.lemmas.List.Elements.{All-nil, All-cons}
use Rattle.tup_path.specs.Name.{Names, Content}
use Rattle.tup_path.specs.Order.{by_names, by_names-total, same_path, same_path-by_names}
use Rattle.tup_path.specs.Tree.{Tree}
use Rattle.tup_stamp.specs.declared.Stamp.{Stamp}
use Rattle.tup_stamp.specs.Stamp.{stamp}
use Rattle.tup_rule.specs.declared.rule.Rule.{Rule}
use Rattle.tup_rule.specs.Rule.{declares, writes, maker}
use Rattle.tup_rule.specs.Producer.{MakesFor, ProducerOver, DeclaredProducer}
use Rattle.tup_record.specs.declared.owned.OwnedState.TheVariants.{Never, Written}
use Rattle.tup_record.specs.declared.run.RunRecord.{RunRecord}
use Rattle.tup_runner.specs.Next.{Next}
use Rattle.tup_runner.proofs.Asking.{just_none, just_more}
use Rattle.tup_runner.specs.declared.step.Answer.TheVariants.{Content as Holds}
use Rattle.tup_runner.specs.declared.step.Step.TheVariants.{Ask as AsksFor, End}
use Rattle.tup_access.specs.declared.verdict.Verdict.TheVariants.{Good}
use Rattle.tup_clean.proofs.Among.{same_path-equal}
use Rattle.tup_core.specs.declared.event.CoreEvent.{CoreEvent}
use Rattle.tup_core.specs.declared.event.CoreEvent.TheVariants.{Claim, Ask, Finish}
use Rattle.tup_core.specs.declared.plan.Plan.{Plan}
use Rattle.tup_core.specs.declared.running.Running.{Running}
use Rattle.tup_core.specs.Step.{State, opening, is_reached, Runs, after}
use Rattle.tup_core.specs.Run.{IsRun, end_of}
use Rattle.tup_core.specs.Sound.{IsAcyclic}
use Rattle.tup_core.specs.Honest.{IsKnown, EndsHonestly, IsHonest}
use Rattle.tup_core.specs.Kept.{Kept, Owner, HasState, IsTrueRecord, IsCurrent, IsKept}
use Rattle.tup_core.specs.Planned.{IsPlanned}
use Rattle.tup_core.specs.Laws.{SomeHonestRun}
use Rattle.tup_core.proofs.Changed.{changed_cases}

-- ---- the project

abbrev file_a : Names
file_a = (97 ∷ []) ∷ []

abbrev file_b : Names
file_b = (98 ∷ []) ∷ []

abbrev file_c : Names
file_c = (99 ∷ []) ∷ []

-- the file of b is read from that of a, and that of c from that of b
abbrev first : Rule
first = record { dir = []; text = 97 ∷ []; display = None; compare = false; inputs = file_a ∷ []; order = []; outputs = file_b ∷ [] }

abbrev second : Rule
second = record { dir = []; text = 98 ∷ []; display = None; compare = false; inputs = file_b ∷ []; order = []; outputs = file_c ∷ [] }

abbrev letters : Next
letters dir text [] = AsksFor text
letters dir [] (ask ∷ asks) = End (record { status = 0; writes = [] })
letters dir (letter ∷ rest) (ask ∷ asks) = End (record { status = 0; writes = ((letter + 1) ∷ rest, []) ∷ [] })

-- all files are empty
abbrev known : List Content
known = [] ∷ []

abbrev seen_stamp : Stamp
seen_stamp = stamp []

abbrev tree : Tree
tree = finite.insert (finite.insert finite.empty file_a []) file_b []

abbrev plan : Plan
plan = record { rules = first ∷ second ∷ []; reach = 1 ∷ []; near = 1 ∷ []; keep_going = false }

abbrev files : List (Names × Stamp)
files = (file_a, seen_stamp) ∷ (file_b, seen_stamp) ∷ []

-- the first rule was run, the second never
abbrev run_of_first : RunRecord
run_of_first = record { asks = (file_a, Some seen_stamp) ∷ []; writes = (file_b, seen_stamp) ∷ [] }

abbrev record_at : ℕ → Option RunRecord
record_at zero = Some run_of_first
record_at (suc at) = None

abbrev owner_of_b : Owner
owner_of_b = record { maker = Some 0; state = Written seen_stamp }

abbrev owner_of_c : Owner
owner_of_c = record { maker = Some 1; state = Never }

abbrev kept : Kept
kept = record {
  seen = λ path. option_map stamp (finite.get tree path);
  rules = plan.rules;
  record_of = record_at;
  flagged = is_reached plan;
  owner = λ path. if same_path path file_b then Some owner_of_b else if same_path path file_c then Some owner_of_c else None;
}

abbrev events : List CoreEvent
events = Claim 0 1 ∷ Ask 0 (98 ∷ []) (Some seen_stamp) ∷ Finish 0 Good ((file_c, seen_stamp) ∷ []) ∷ []

-- ---- what is known

holds_known : Contains known []
holds_known = (0, omega arith, refl)

in_known : (content : Content) → Contains known content → [] ≡ content
in_known content (zero, below, is) = is
in_known content (suc k, below, is) = absurd (omega arith)

known_apart : IsKnown known
known_apart one other has_one has_other same = sym (in_known one has_one) ∙ in_known other has_other

-- ---- the tree

get-insert : (before : Tree) (path q : Names) → finite.get (finite.insert before path []) q ≡ cond (same_path q path) (Some []) (finite.get before q)
get-insert before path q = rw (same_path-by_names q path) (finite.get-insert by_names-total before path [] q)

tree_at : (q : Names) → finite.get tree q ≡ cond (same_path q file_b) (Some []) (cond (same_path q file_a) (Some []) None)
tree_at q =
    get-insert (finite.insert finite.empty file_a []) file_b q
    ∙ ap (λ o. cond (same_path q file_b) (Some []) o) (get-insert finite.empty file_a q ∙ ap (λ o. cond (same_path q file_a) (Some []) o) (finite.get-empty by_names q))

two_stamps : (x y : Bool) → (if x then Some seen_stamp else if y then Some seen_stamp else None) ≡ option_map stamp (cond x (Some []) (cond y (Some []) None))
two_stamps true y = refl
two_stamps false true = refl
two_stamps false false = refl

one_content : (x y : Bool) (content : Content) → cond x (Some []) (cond y (Some []) None) ≡ Some content → [] ≡ content
one_content true y content is = same_Some [] content is
one_content false true content is = same_Some [] content is
one_content false false content is = absurd (none-some content is)

-- ---- the rules

data Place (at : ℕ) (rule : Rule) : Type 0 where
  at_first : at ≡ 0 → first ≡ rule → Place at rule
  at_second : at ≡ 1 → second ≡ rule → Place at rule

place_of : (at : ℕ) (rule : Rule) → slice_get plan.rules at ≡ Some rule → Place at rule
place_of zero rule here = at_first refl (same_Some first rule here)
place_of (suc zero) rule here = at_second refl (same_Some second rule here)
place_of (suc (suc at)) rule here = absurd (none-some rule here)

-- a path that is the only one of a list
only : (path one : Names) → (same_path path one || false) ≡ true → path ≡ one
only path one is = same_path-equal path one (by (same_path path one) is)
  where
    by : (b : Bool) → (b || false) ≡ true → b ≡ true
    by true is_so = refl
    by false is_so = is_so

only_declared : (path one : Names) → ((same_path path one || false) || false) ≡ true → path ≡ one
only_declared path one is = only path one (by (same_path path one || false) is)
  where
    by : (b : Bool) → (b || false) ≡ true → b ≡ true
    by true is_so = refl
    by false is_so = is_so

first_makes : (at : ℕ) → MakesFor plan.rules first at → ⊥
first_makes at (path, declared, made) =
    none-some at (sym (ap (λ (p : Names). maker p plan.rules) (only_declared path file_a declared)) ∙ made)

second_makes : (at : ℕ) → MakesFor plan.rules second at → at ≡ 0
second_makes at (path, declared, made) =
    sym (same_Some 0 at (sym (ap (λ (p : Names). maker p plan.rules) (only_declared path file_b declared)) ∙ made))

first_over : (between at : ℕ) → ProducerOver between plan.rules first at → ⊥
first_over zero at makes = first_makes at makes
first_over (suc between) at (next, other, makes, here, rest) = first_makes next makes

second_over : (between at : ℕ) → ProducerOver between plan.rules second at → at ≡ 0
second_over zero at makes = second_makes at makes
second_over (suc between) at (next, other, makes, here, rest) =
    let is_first : first ≡ other = same_Some first other (sym (ap (slice_get plan.rules) (second_makes next makes)) ∙ here) in
    absurd (first_over between at (subst (λ (r : Rule). ProducerOver between plan.rules r at) (sym is_first) rest))

acyclic : IsAcyclic plan.rules
acyclic at rule here produces = by (place_of at rule here)
  where
    by : Place at rule → ⊥
    by (at_first is same) = first_over produces.0 at (subst (λ (r : Rule). ProducerOver produces.0 plan.rules r at) (sym same) produces.1)
    by (at_second is same) =
        let zero_too = second_over produces.0 at (subst (λ (r : Rule). ProducerOver produces.0 plan.rules r at) (sym same) produces.1) in
        absurd (omega arith)

-- ---- what is kept

recorded : (at : ℕ) (run : RunRecord) → kept.record_of at ≡ Some run → (at ≡ 0) × (run_of_first ≡ run)
recorded zero run has = (refl, same_Some run_of_first run has)
recorded (suc at) run has = absurd (none-some run has)

flagged_is : (at : ℕ) → is_reached plan at ≡ true → at ≡ 1
flagged_is at is = eqb-true at 1 (by (at == 1) is)
  where
    by : (b : Bool) → (b || false) ≡ true → b ≡ true
    by true is_so = refl
    by false is_so = is_so

first_true : IsTrueRecord letters known first run_of_first
first_true = record {
  asks = (97 ∷ [], Holds []) ∷ [];
  recorded = (refl, (holds_known, refl), (λ own. absurd (false≢true own)), tt);
  just = just_more (letters [] (97 ∷ [])) [] (97 ∷ []) (Holds []) (just_none (letters [] (97 ∷ []))) refl;
  few = omega arith;
  ended = record { status = 0; writes = (98 ∷ [], []) ∷ [] };
  ends = refl;
  good = refl;
  leaves = refl;
  contents = All-cons (λ (file : Names × Content). Contains known file.1) (file_b, []) [] holds_known (All-nil (λ (file : Names × Content). Contains known file.1));
}

abbrev AsksSeen : Names × Option Stamp → Type 0
AsksSeen ask = writes first ask.0 ≡ false → ask.1 ≡ kept.seen ask.0

abbrev IsSeen : Names × Stamp → Type 0
IsSeen file = kept.seen file.0 ≡ Some file.1

abbrev IsDeclared : Names × Option Stamp → Type 0
IsDeclared ask = writes first ask.0 ≡ false → IsSome (kept.owner ask.0) → declares first ask.0 ≡ true

abbrev IsWritten : Names × Stamp → Type 0
IsWritten file = HasState kept file.0 (Written file.1)

first_current : IsCurrent kept first run_of_first
first_current = record {
  asks = All-cons AsksSeen (file_a, Some seen_stamp) [] (λ foreign. ap (option_map stamp) (sym (tree_at file_a))) (All-nil AsksSeen);
  seen = All-cons IsSeen (file_b, seen_stamp) [] (ap (option_map stamp) (tree_at file_b)) (All-nil IsSeen);
  declared = All-cons IsDeclared (file_a, Some seen_stamp) [] (λ foreign owned. refl) (All-nil IsDeclared);
  written = All-cons IsWritten (file_b, seen_stamp) [] (owner_of_b, refl, refl) (All-nil IsWritten);
}

-- what the first rule asked is the file of a
asked_is : (ask : Names × Option Stamp) → Contains run_of_first.asks ask → (file_a, Some seen_stamp) ≡ ask
asked_is ask (zero, below, is) = is
asked_is ask (suc k, below, is) = absurd (omega arith)

not_upward : (at other : ℕ) (rule another : Rule) (run : RunRecord) (ask : Names × Option Stamp) → slice_get plan.rules other ≡ Some another → kept.record_of at ≡ Some run → Contains run.asks ask →
    writes another ask.0 ≡ true → is_reached plan other ≡ true → ⊥
not_upward at other rule another run ask there has asked own reached =
    let is_second : second ≡ another = same_Some second another (sym (ap (slice_get plan.rules) (flagged_is other reached)) ∙ there) in
    let is_a = asked_is ask (subst (λ (r : RunRecord). Contains r.asks ask) (sym (recorded at run has).1) asked) in
    let own_a : writes second file_a ≡ true = ap (λ (r : Rule). writes r file_a) is_second ∙ ap (λ (a : Names × Option Stamp). writes another a.0) is_a ∙ own in
    false≢true own_a

owners : (x y : Bool) (owner : Owner) → (if x then Some owner_of_b else if y then Some owner_of_c else None) ≡ Some owner → owner.maker ≢ None
owners true y owner is none = none-some 0 (sym (ap (λ (o : Owner). o.maker) (same_Some owner_of_b owner is) ∙ none))
owners false true owner is none = none-some 1 (sym (ap (λ (o : Owner). o.maker) (same_Some owner_of_c owner is) ∙ none))
owners false false owner is none = absurd (none-some owner is)

no_others : (x y : Bool) (owner : Owner) → (if x then Some owner_of_b else if y then Some owner_of_c else None) ≡ Some owner → ((x || false) || ((y || false) || false)) ≡ false → owner.maker ≡ None
no_others true y owner is plain = absurd (true≢false plain)
no_others false true owner is plain = absurd (true≢false plain)
no_others false false owner is plain = absurd (none-some owner is)

outputs_of : (at : ℕ) (rule : Rule) (path : Names) → Place at rule → writes rule path ≡ true → (owner : Owner) × (kept.owner path ≡ Some owner) × (owner.maker ≡ Some at)
outputs_of at rule path (at_first is same) own =
    let is_b = only path file_b (ap (λ (r : Rule). writes r path) same ∙ own) in
    (owner_of_b, ap kept.owner is_b, ap Some (sym is))
outputs_of at rule path (at_second is same) own =
    let is_c = only path file_c (ap (λ (r : Rule). writes r path) same ∙ own) in
    (owner_of_c, ap kept.owner is_c, ap Some (sym is))

current_of : (at : ℕ) (rule : Rule) → Place at rule → is_reached plan at ≡ false → (run : RunRecord) × (kept.record_of at ≡ Some run) × IsCurrent kept rule run
current_of at rule (at_first is same) unflagged = (run_of_first, ap kept.record_of is, subst (λ (r : Rule). IsCurrent kept r run_of_first) same first_current)
current_of at rule (at_second is same) unflagged = absurd (true≢false (sym (ap (is_reached plan) is) ∙ unflagged))

true_of : (at : ℕ) (rule : Rule) (run : RunRecord) → Place at rule → kept.record_of at ≡ Some run → IsTrueRecord letters known rule run
true_of at rule run (at_first is same) has =
    subst (λ (r : Rule). IsTrueRecord letters known r run) same (subst (λ (r : RunRecord). IsTrueRecord letters known first r) (recorded at run has).1 first_true)
true_of at rule run (at_second is same) has =
    let zero_too = (recorded at run has).0 in absurd (omega arith)

is_kept : IsKept letters known kept
is_kept = record {
  acyclic = acyclic;
  flags = λ at flagged. below at (flagged_is at flagged);
  true_records = λ at rule run here has. true_of at rule run (place_of at rule here) has;
  current = λ at rule here unflagged. current_of at rule (place_of at rule here) unflagged;
  upward = λ at other rule another run ask here there has asked own flagged. absurd (not_upward at other rule another run ask there has asked own flagged);
  outputs = λ at rule path here own. outputs_of at rule path (place_of at rule here) own;
  others = λ path owner is plain. no_others (same_path path file_b) (same_path path file_c) owner is plain;
}
  where
    below : (at : ℕ) → at ≡ 1 → at < 2
    below at is = omega arith

planned : IsPlanned letters known kept tree plan files
planned = record {
  is_kept = is_kept;
  seen = λ path. refl;
  made = λ path owner is. owners (same_path path file_b) (same_path path file_c) owner is;
  rules = refl;
  reach = λ at. refl;
  stamps = λ path. two_stamps (same_path path file_b) (same_path path file_a) ∙ ap (option_map stamp) (sym (tree_at path));
  is_known = known_apart;
  contents = λ path content is. subst (λ (c : Content). Contains known c) (one_content (same_path path file_b) (same_path path file_a) content (sym (tree_at path) ∙ is)) holds_known;
}

-- ---- the run

abbrev running : Running
running = record { rule = 1; asks = (98 ∷ [], Some seen_stamp) ∷ []; denied = None }

abbrev begun : State
begun = after plan (opening plan files) (Claim 0 1)

abbrev asked : State
asked = after plan begun (Ask 0 (98 ∷ []) (Some seen_stamp))

below_seats : 0 < 16
below_seats = omega arith

clear_second : (at : ℕ) → DeclaredProducer plan.rules second at → is_reached plan at ≡ false
clear_second at produces = ap (is_reached plan) (second_over produces.0 at produces.1)

runs : IsRun plan (opening plan files) events
runs = (
  (below_seats, refl, record { pending = refl; unclaimed = refl; going = refl; clear = (second, refl, clear_second) }),
  (
    (record { rule = 1; asks = []; denied = None }, second, file_b, record { within = below_seats; here = refl; placed = refl }, refl, refl, refl),
    ((running, second, record { within = below_seats; here = refl; placed = refl }, refl), tt),
  ),
)

honest_end : EndsHonestly letters known second running None Good ((file_c, seen_stamp) ∷ [])
honest_end = (
  record {
    asks = (98 ∷ [], Holds []) ∷ [];
    stamps = (refl, (holds_known, refl), tt);
    just = just_more (letters [] (98 ∷ [])) [] (98 ∷ []) (Holds []) (just_none (letters [] (98 ∷ []))) refl;
  },
  record { status = 0; writes = (99 ∷ [], []) ∷ [] },
  refl,
  refl,
  refl,
  All-cons (λ (file : Names × Content). Contains known file.1) (file_c, []) [] holds_known (All-nil (λ (file : Names × Content). Contains known file.1)),
)

honest : IsHonest letters known plan (opening plan files) events
honest = ((λ now rule ran. ends_so now rule (same_Some running now ran.here) ran), tt)
  where
    ends_so : (now : Running) (rule : Rule) → running ≡ now → Runs plan asked 0 now rule → EndsHonestly letters known rule now now.denied Good ((file_c, seen_stamp) ∷ [])
    ends_so now rule is ran =
        let is_second : second ≡ rule = same_Some second rule (ap (λ (r : Running). slice_get plan.rules r.rule) is ∙ ran.placed) in
        subst (λ (r : Rule). EndsHonestly letters known r now now.denied Good ((file_c, seen_stamp) ∷ [])) is_second
        (subst (λ (r : Running). EndsHonestly letters known second r r.denied Good ((file_c, seen_stamp) ∷ [])) is honest_end)

none_pending : (at : ℕ) → (end_of plan (opening plan files) events).pending at ≡ false
none_pending at = elim (changed_cases (is_reached plan) 1 false at) [
  | inl here ↦ here.1
  | inr apart ↦ apart.1 ∙ false_from_ne_true (is_reached plan at) (λ reached. apart.0 (flagged_is at reached))
]

pub some_honest_run : SomeHonestRun
some_honest_run = (letters, known, kept, tree, plan, files, events, planned, runs, honest, none_pending, refl, refl, refl)
