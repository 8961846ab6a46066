-- What an account tells of a command: which paths are in its lists, and that each is there once.
use Rattle.std.proofs.Common.{◌≡◌, refl, sym, ap, subst, ◌∙◌, List, [], ◌∷◌, ◌++◌, Bool, true, false}
use Rattle.std.specs.Prelude.{◌||◌, ◌&&◌, not, if◌then◌else◌, fold}
use Rattle.std.specs.List.{list_any, IsDistinct, AllByRecursion}
use Rattle.std.proofs.lemmas.Bool.{true≢false}
use Rattle.std.proofs.lemmas.List.Folds.{list_any-append}
use Rattle.tup_path.specs.Name.{Names}
use Rattle.tup_path.specs.Order.{same_path}
use Rattle.tup_path.proofs.Same.{same_path-decides}
use Rattle.tup_strace.specs.Account.{is_found, is_missed, nothing, asked, written, with_step}
use Rattle.tup_strace.specs.Once.{is_among, with_path, unless_among}
use Rattle.tup_strace.specs.Laws.{asked_by, found_by, missed_by, written_by, touched_by, first_by, AsksAreFirst, FoundAreFirst, MissedAreFirst, AnswersAreAsks, AsksAreDistinct, AllIsTouched, TouchedAreDistinct, WrittenIsOwn}
use Rattle.tup_strace.specs.declared.act.Answer.TheVariants.{Unclear}
use Rattle.tup_strace.specs.declared.account.Account.{Account}
use Rattle.tup_strace.specs.declared.account.Step.{Step}
use Rattle.tup_strace.specs.declared.account.Step.TheVariants.{Ask, Write, Change, Remove, Move}

-- ---- of tests
only : (b : Bool) → (b || false) ≡ true → b ≡ true
only true test = refl
only false test = test

and_nothing : (b : Bool) → b ≡ (b || false)
and_nothing true = refl
and_nothing false = refl

and_none : (b o : Bool) → b ≡ (b || (not o && false))
and_none true o = refl
and_none false true = refl
and_none false false = refl

-- what implies the first adds nothing
absorbed : (b c : Bool) → (c ≡ true → b ≡ true) → b ≡ (b || c)
absorbed true c implied = refl
absorbed false true implied = implied refl
absorbed false false implied = refl

-- what is apart from the first stays
kept : (o s : Bool) → (s ≡ true → o ≡ false) → s ≡ (not o && s)
kept false s apart = refl
kept true false apart = refl
kept true true apart = apart refl

-- what implies the first isn't left
none_left : (o s : Bool) → (s ≡ true → o ≡ true) → (not o && s) ≡ false
none_left true s implied = refl
none_left false true implied = sym (implied refl)
none_left false false implied = refl

three : (b t f : Bool) → ((b || (t || false)) || (f || false)) ≡ (b || (t || (f || false)))
three true t f = refl
three false true f = refl
three false false f = refl

grouped : (a b c : Bool) → ((a || b) || c) ≡ (a || (b || c))
grouped true b c = refl
grouped false b c = refl

joined : (a o s w r : Bool) → ((a || (not o && s)) || (not (o || w) && r)) ≡ (a || (not o && (s || (not w && r))))
joined true o s w r = refl
joined false true s w r = refl
joined false false true w r = refl
joined false false false w r = refl

-- ---- a path more
alone : (path other : Names) → is_among other (path ∷ []) ≡ true → path ≡ other
alone path other test = (same_path-decides path other).0 (only (same_path path other) test)

one_more : (paths : List Names) (path other : Names) → is_among other (with_path paths path) ≡ (is_among other paths || is_among other (path ∷ []))
one_more paths path other = by (is_among path paths) refl
  where
    by : (there : Bool) → is_among path paths ≡ there → is_among other (if there then paths else paths ++ path ∷ []) ≡ (is_among other paths || is_among other (path ∷ []))
    by true test = absorbed (is_among other paths) (is_among other (path ∷ [])) (λ same. subst (λ each. is_among each paths ≡ true) (alone path other same) test)
    by false test = list_any-append (λ each. same_path each other) paths (path ∷ [])

added : (own paths : List Names) (path other : Names) →
    is_among other (unless_among own paths path) ≡ (is_among other paths || (not (is_among other own) && is_among other (path ∷ [])))
added own paths path other = by (is_among path own) refl
  where
    by : (test : Bool) → is_among path own ≡ test →
        is_among other (if test then paths else with_path paths path) ≡ (is_among other paths || (not (is_among other own) && is_among other (path ∷ [])))
    by true test = and_nothing (is_among other paths)
        ∙ ap (λ c. is_among other paths || c) (sym (none_left (is_among other own) (is_among other (path ∷ [])) (λ same. subst (λ each. is_among each own ≡ true) (alone path other same) test)))
    by false test = one_more paths path other
        ∙ ap (λ c. is_among other paths || c) (kept (is_among other own) (is_among other (path ∷ [])) (λ same. subst (λ each. is_among each own ≡ false) (alone path other same) test))

-- the same where only a test adds it
added_if : (test : Bool) (own paths : List Names) (path other : Names) →
    is_among other (if test then unless_among own paths path else paths) ≡ (is_among other paths || (not (is_among other own) && is_among other (if test then path ∷ [] else [])))
added_if true own paths path other = added own paths path other
added_if false own paths path other = and_none (is_among other paths) (is_among other own)

-- ---- a step more
asks_step : (account : Account) (step : Step) (other : Names) →
    is_among other (with_step account step).asks ≡ (is_among other account.asks || (not (is_among other account.own) && is_among other (asked_by step)))
asks_step account (Ask path answer) other = added account.own account.asks path other
asks_step account (Write path) other = and_none (is_among other account.asks) (is_among other account.own)
asks_step account (Change path) other = added account.own account.asks path other
asks_step account (Remove path) other = added account.own account.asks path other
asks_step account (Move from to) other = by (same_path from to)
  where
    by : (same : Bool) → is_among other (if same then asked account from Unclear else written (written (asked account from Unclear) to) from).asks
        ≡ (is_among other account.asks || (not (is_among other account.own) && is_among other (from ∷ [])))
    by true = added account.own account.asks from other
    by false = added account.own account.asks from other

found_step : (account : Account) (step : Step) (other : Names) →
    is_among other (with_step account step).found ≡ (is_among other account.found || (not (is_among other account.own) && is_among other (found_by step)))
found_step account (Ask path answer) other = added_if (is_found answer) account.own account.found path other
found_step account (Write path) other = and_none (is_among other account.found) (is_among other account.own)
found_step account (Change path) other = and_none (is_among other account.found) (is_among other account.own)
found_step account (Remove path) other = and_none (is_among other account.found) (is_among other account.own)
found_step account (Move from to) other = by (same_path from to)
  where
    by : (same : Bool) → is_among other (if same then asked account from Unclear else written (written (asked account from Unclear) to) from).found
        ≡ (is_among other account.found || (not (is_among other account.own) && false))
    by true = and_none (is_among other account.found) (is_among other account.own)
    by false = and_none (is_among other account.found) (is_among other account.own)

missed_step : (account : Account) (step : Step) (other : Names) →
    is_among other (with_step account step).missed ≡ (is_among other account.missed || (not (is_among other account.own) && is_among other (missed_by step)))
missed_step account (Ask path answer) other = added_if (is_missed answer) account.own account.missed path other
missed_step account (Write path) other = and_none (is_among other account.missed) (is_among other account.own)
missed_step account (Change path) other = and_none (is_among other account.missed) (is_among other account.own)
missed_step account (Remove path) other = and_none (is_among other account.missed) (is_among other account.own)
missed_step account (Move from to) other = by (same_path from to)
  where
    by : (same : Bool) → is_among other (if same then asked account from Unclear else written (written (asked account from Unclear) to) from).missed
        ≡ (is_among other account.missed || (not (is_among other account.own) && false))
    by true = and_none (is_among other account.missed) (is_among other account.own)
    by false = and_none (is_among other account.missed) (is_among other account.own)

own_step : (account : Account) (step : Step) (other : Names) → is_among other (with_step account step).own ≡ (is_among other account.own || is_among other (written_by step))
own_step account (Ask path answer) other = and_nothing (is_among other account.own)
own_step account (Write path) other = one_more account.own path other
own_step account (Change path) other = and_nothing (is_among other account.own)
own_step account (Remove path) other = one_more account.own path other
own_step account (Move from to) other = by (same_path from to)
  where
    by : (same : Bool) → is_among other (if same then asked account from Unclear else written (written (asked account from Unclear) to) from).own
        ≡ (is_among other account.own || is_among other (if same then [] else to ∷ from ∷ []))
    by true = and_nothing (is_among other account.own)
    by false = one_more (with_path account.own to) from other
        ∙ ap (λ b. b || is_among other (from ∷ [])) (one_more account.own to other)
        ∙ three (is_among other account.own) (same_path to other) (same_path from other)

touched_step : (account : Account) (step : Step) (other : Names) →
    is_among other (with_step account step).touched ≡ (is_among other account.touched || is_among other (touched_by step))
touched_step account (Ask path answer) other = and_nothing (is_among other account.touched)
touched_step account (Write path) other = one_more account.touched path other
touched_step account (Change path) other = one_more account.touched path other
touched_step account (Remove path) other = one_more account.touched path other
touched_step account (Move from to) other = by (same_path from to)
  where
    by : (same : Bool) → is_among other (if same then asked account from Unclear else written (written (asked account from Unclear) to) from).touched
        ≡ (is_among other account.touched || is_among other (if same then [] else to ∷ from ∷ []))
    by true = and_nothing (is_among other account.touched)
    by false = one_more (with_path account.touched to) from other
        ∙ ap (λ b. b || is_among other (from ∷ [])) (one_more account.touched to other)
        ∙ three (is_among other account.touched) (same_path to other) (same_path from other)

-- ---- step by step
first_run : (does : Step → List Names) (among : Account → List Names) →
    ((account : Account) (step : Step) (other : Names) →
    is_among other (among (with_step account step)) ≡ (is_among other (among account) || (not (is_among other account.own) && is_among other (does step)))) →
    (steps : List Step) (account : Account) (other : Names) →
    is_among other (among (fold with_step account steps)) ≡ (is_among other (among account) || (not (is_among other account.own) && first_by does other steps))
first_run does among one [] account other = and_none (is_among other (among account)) (is_among other account.own)
first_run does among one (step ∷ more) account other =
    first_run does among one more (with_step account step) other
    ∙ ap (λ b. b || (not (is_among other (with_step account step).own) && first_by does other more)) (one account step other)
    ∙ ap (λ o. (is_among other (among account) || (not (is_among other account.own) && is_among other (does step))) || (not o && first_by does other more)) (own_step account step other)
    ∙ joined (is_among other (among account)) (is_among other account.own) (is_among other (does step)) (is_among other (written_by step)) (first_by does other more)

own_run : (steps : List Step) (account : Account) (other : Names) →
    is_among other (fold with_step account steps).own ≡ (is_among other account.own || list_any (λ step. is_among other (written_by step)) steps)
own_run [] account other = and_nothing (is_among other account.own)
own_run (step ∷ more) account other =
    own_run more (with_step account step) other
    ∙ ap (λ b. b || list_any (λ step. is_among other (written_by step)) more) (own_step account step other)
    ∙ grouped (is_among other account.own) (is_among other (written_by step)) (list_any (λ step. is_among other (written_by step)) more)

touched_run : (steps : List Step) (account : Account) (other : Names) →
    is_among other (fold with_step account steps).touched ≡ (is_among other account.touched || list_any (λ step. is_among other (touched_by step)) steps)
touched_run [] account other = and_nothing (is_among other account.touched)
touched_run (step ∷ more) account other =
    touched_run more (with_step account step) other
    ∙ ap (λ b. b || list_any (λ step. is_among other (touched_by step)) more) (touched_step account step other)
    ∙ grouped (is_among other account.touched) (is_among other (touched_by step)) (list_any (λ step. is_among other (touched_by step)) more)

pub asks_are_first : AsksAreFirst
asks_are_first path steps = first_run asked_by (λ account. account.asks) asks_step steps nothing path

pub found_are_first : FoundAreFirst
found_are_first path steps = first_run found_by (λ account. account.found) found_step steps nothing path

pub missed_are_first : MissedAreFirst
missed_are_first path steps = first_run missed_by (λ account. account.missed) missed_step steps nothing path

pub all_is_touched : AllIsTouched
all_is_touched path steps = touched_run steps nothing path

pub written_is_own : WrittenIsOwn
written_is_own path steps = own_run steps nothing path

-- ---- what was found or missed was asked for
or_right : (a b : Bool) → b ≡ true → (a || b) ≡ true
or_right true b test = refl
or_right false b test = test

weaker : (a c w f g : Bool) → (a ≡ true → c ≡ true) → (f ≡ true → g ≡ true) → (a || (not w && f)) ≡ true → (c || (not w && g)) ≡ true
weaker true c w f g first rest test = ap (λ b. b || (not w && g)) (first refl)
weaker false c true f g first rest test = absurd (true≢false (sym test))
weaker false c false f g first rest test = or_right c g (rest test)

all_weaker : (does asks : Step → List Names) → ((path : Names) (step : Step) → is_among path (does step) ≡ true → is_among path (asks step) ≡ true) →
    (path : Names) (steps : List Step) → first_by does path steps ≡ true → first_by asks path steps ≡ true
all_weaker does asks one path [] test = test
all_weaker does asks one path (step ∷ more) test =
    weaker (is_among path (does step)) (is_among path (asks step)) (is_among path (written_by step)) (first_by does path more) (first_by asks path more)
    (one path step) (all_weaker does asks one path more) test

asked_if : (told : Bool) (path other : Names) → is_among other (if told then path ∷ [] else []) ≡ true → is_among other (path ∷ []) ≡ true
asked_if true path other test = test
asked_if false path other test = absurd (true≢false (sym test))

found_asked : (path : Names) (step : Step) → is_among path (found_by step) ≡ true → is_among path (asked_by step) ≡ true
found_asked other (Ask path answer) test = asked_if (is_found answer) path other test
found_asked other (Write path) test = absurd (true≢false (sym test))
found_asked other (Change path) test = absurd (true≢false (sym test))
found_asked other (Remove path) test = absurd (true≢false (sym test))
found_asked other (Move from to) test = absurd (true≢false (sym test))

missed_asked : (path : Names) (step : Step) → is_among path (missed_by step) ≡ true → is_among path (asked_by step) ≡ true
missed_asked other (Ask path answer) test = asked_if (is_missed answer) path other test
missed_asked other (Write path) test = absurd (true≢false (sym test))
missed_asked other (Change path) test = absurd (true≢false (sym test))
missed_asked other (Remove path) test = absurd (true≢false (sym test))
missed_asked other (Move from to) test = absurd (true≢false (sym test))

pub answers_are_asks : AnswersAreAsks
answers_are_asks path steps = (
  λ test. asks_are_first path steps ∙ all_weaker found_by asked_by found_asked path steps (sym (found_are_first path steps) ∙ test),
  λ test. asks_are_first path steps ∙ all_weaker missed_by asked_by missed_asked path steps (sym (missed_are_first path steps) ∙ test),
)

-- ---- each once
first_apart : (b c : Bool) → (b || c) ≡ false → b ≡ false
first_apart true c apart = absurd (true≢false apart)
first_apart false c apart = refl

rest_apart : (b c : Bool) → (b || c) ≡ false → c ≡ false
rest_apart true c apart = absurd (true≢false apart)
rest_apart false c apart = apart

apart_more : (each path : Names) (paths : List Names) → AllByRecursion (λ other. same_path each other ≡ false) paths → same_path each path ≡ false →
    AllByRecursion (λ other. same_path each other ≡ false) (paths ++ path ∷ [])
apart_more each path [] apart last = (last, tt)
apart_more each path (other ∷ more) (first, rest) last = (first, apart_more each path more rest last)

distinct_more : (paths : List Names) (path : Names) → is_among path paths ≡ false → IsDistinct same_path paths → IsDistinct same_path (paths ++ path ∷ [])
unfolding IsDistinct
distinct_more [] path apart distinct = (tt, tt)
distinct_more (each ∷ more) path apart (first, rest) = (
  apart_more each path more first (first_apart (same_path each path) (is_among path more) apart),
  distinct_more more path (rest_apart (same_path each path) (is_among path more) apart) rest,
)

distinct_with : (paths : List Names) (path : Names) → IsDistinct same_path paths → IsDistinct same_path (with_path paths path)
distinct_with paths path distinct = by (is_among path paths) refl
  where
    by : (there : Bool) → is_among path paths ≡ there → IsDistinct same_path (if there then paths else paths ++ path ∷ [])
    by true test = distinct
    by false test = distinct_more paths path test distinct

distinct_asked : (account : Account) (path : Names) → IsDistinct same_path account.asks → IsDistinct same_path (unless_among account.own account.asks path)
distinct_asked account path distinct = by (is_among path account.own)
  where
    by : (own : Bool) → IsDistinct same_path (if own then account.asks else with_path account.asks path)
    by true = distinct
    by false = distinct_with account.asks path distinct

distinct_asks : (account : Account) (step : Step) → IsDistinct same_path account.asks → IsDistinct same_path (with_step account step).asks
distinct_asks account (Ask path answer) distinct = distinct_asked account path distinct
distinct_asks account (Write path) distinct = distinct
distinct_asks account (Change path) distinct = distinct_asked account path distinct
distinct_asks account (Remove path) distinct = distinct_asked account path distinct
distinct_asks account (Move from to) distinct = by (same_path from to)
  where
    by : (same : Bool) → IsDistinct same_path (if same then asked account from Unclear else written (written (asked account from Unclear) to) from).asks
    by true = distinct_asked account from distinct
    by false = distinct_asked account from distinct

distinct_touched : (account : Account) (step : Step) → IsDistinct same_path account.touched → IsDistinct same_path (with_step account step).touched
distinct_touched account (Ask path answer) distinct = distinct
distinct_touched account (Write path) distinct = distinct_with account.touched path distinct
distinct_touched account (Change path) distinct = distinct_with account.touched path distinct
distinct_touched account (Remove path) distinct = distinct_with account.touched path distinct
distinct_touched account (Move from to) distinct = by (same_path from to)
  where
    by : (same : Bool) → IsDistinct same_path (if same then asked account from Unclear else written (written (asked account from Unclear) to) from).touched
    by true = distinct
    by false = distinct_with (with_path account.touched to) from (distinct_with account.touched to distinct)

asks_distinct : (steps : List Step) (account : Account) → IsDistinct same_path account.asks → IsDistinct same_path (fold with_step account steps).asks
asks_distinct [] account distinct = distinct
asks_distinct (step ∷ more) account distinct = asks_distinct more (with_step account step) (distinct_asks account step distinct)

touched_distinct : (steps : List Step) (account : Account) → IsDistinct same_path account.touched → IsDistinct same_path (fold with_step account steps).touched
touched_distinct [] account distinct = distinct
touched_distinct (step ∷ more) account distinct = touched_distinct more (with_step account step) (distinct_touched account step distinct)

none_distinct : IsDistinct same_path []
unfolding IsDistinct
none_distinct = tt

pub asks_are_distinct : AsksAreDistinct
asks_are_distinct steps = asks_distinct steps nothing none_distinct

pub touched_are_distinct : TouchedAreDistinct
touched_are_distinct steps = touched_distinct steps nothing none_distinct
