-- What an account tells of a command, said without going through it step by step.
use Rattle.std.specs.Prelude.{◌≡◌, ◌&&◌, ◌||◌, not, Bool, true, false, if◌then◌else◌, List, [], ◌∷◌}
use Rattle.std.specs.List.{list_any, IsDistinct}
use Rattle.tup_path.specs.Name.{Names}
use Rattle.tup_path.specs.Order.{same_path}
use Rattle.tup_strace.specs.Account.{is_found, is_missed, account_of}
use Rattle.tup_strace.specs.Once.{is_among}
use Rattle.tup_strace.specs.declared.account.Step.{Step}
use Rattle.tup_strace.specs.declared.account.Step.TheVariants.{Ask, Write, Change, Remove, Move}

-- what a step asks for
abbrev pub asked_by : Step → List Names
asked_by (Ask path answer) = path ∷ []
asked_by (Write path) = []
asked_by (Change path) = path ∷ []
asked_by (Remove path) = path ∷ []
asked_by (Move from to) = from ∷ []

-- what it is told of that something is there
abbrev pub found_by : Step → List Names
found_by (Ask path answer) = if is_found answer then path ∷ [] else []
found_by other = []

-- what it is told of that nothing is there
abbrev pub missed_by : Step → List Names
missed_by (Ask path answer) = if is_missed answer then path ∷ [] else []
missed_by other = []

-- what it surely writes, makes or removes
abbrev pub written_by : Step → List Names
written_by (Ask path answer) = []
written_by (Write path) = path ∷ []
written_by (Change path) = []
written_by (Remove path) = path ∷ []
written_by (Move from to) = if same_path from to then [] else to ∷ from ∷ []

-- what it may have written
abbrev pub touched_by : Step → List Names
touched_by (Ask path answer) = []
touched_by (Write path) = path ∷ []
touched_by (Change path) = path ∷ []
touched_by (Remove path) = path ∷ []
touched_by (Move from to) = written_by (Move from to)

-- whether steps do this to a path that none of them surely wrote, made or removed before
abbrev pub first_by : (Step → List Names) → Names → List Step → Bool
first_by does path [] = false
first_by does path (step ∷ more) = is_among path (does step) || (not (is_among path (written_by step)) && first_by does path more)

-- just what a command asks for before it writes it is among the asks, and each path once
abbrev pub AsksAreFirst : Type 0
AsksAreFirst = (path : Names) (steps : List Step) → is_among path (account_of steps).asks ≡ first_by asked_by path steps

-- just what a command is told is there before it writes it is among what it found
abbrev pub FoundAreFirst : Type 0
FoundAreFirst = (path : Names) (steps : List Step) → is_among path (account_of steps).found ≡ first_by found_by path steps

-- just what a command is told isn't there before it writes it is among what it missed
abbrev pub MissedAreFirst : Type 0
MissedAreFirst = (path : Names) (steps : List Step) → is_among path (account_of steps).missed ≡ first_by missed_by path steps

-- what a command found or missed it asked for
abbrev pub AnswersAreAsks : Type 0
AnswersAreAsks = (path : Names) (steps : List Step) → let account = account_of steps in
    (is_among path account.found ≡ true → is_among path account.asks ≡ true) × (is_among path account.missed ≡ true → is_among path account.asks ≡ true)

-- each path is asked for once
abbrev pub AsksAreDistinct : Type 0
AsksAreDistinct = (steps : List Step) → IsDistinct same_path (account_of steps).asks

-- just what a command wrote, made, removed or may have changed is among what it touched, and each path once
abbrev pub AllIsTouched : Type 0
AllIsTouched = (path : Names) (steps : List Step) → is_among path (account_of steps).touched ≡ list_any (λ step. is_among path (touched_by step)) steps

-- each path is touched once
abbrev pub TouchedAreDistinct : Type 0
TouchedAreDistinct = (steps : List Step) → IsDistinct same_path (account_of steps).touched

-- just what it surely wrote, made or removed is its own
abbrev pub WrittenIsOwn : Type 0
WrittenIsOwn = (path : Names) (steps : List Step) → is_among path (account_of steps).own ≡ list_any (λ step. is_among path (written_by step)) steps
