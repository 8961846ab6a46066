-- Why the readings of all folders come to no rules. The faults and their order are own, as are the limits.
use Rattle.std.specs.Prelude.{◌≡◌, ◌⊎◌, ℕ, ◌+◌, nat_lt, ◌==◌, Bool, ◌&&◌, if◌then◌else◌, List, [], ◌∷◌, ◌++◌, length, Option, None, Some, slice_get, option_map, option_and_then, bytes_eq, Result, Ok, Err}
use Rattle.std.specs.List.{list_any, find, flat_map}
use Rattle.std.specs.Option.{option_or}
use Rattle.tup_path.specs.Name.{Names}
use Rattle.tup_path.specs.Order.{same_path}
use Rattle.tup_rule.specs.declared.draft.Draft.{Draft}
use Rattle.tup_rule.specs.declared.draft.GroupRef.{GroupRef}
use Rattle.tup_rule.specs.declared.question.Reading.{Reading}
use Rattle.tup_rule.specs.declared.rule.Rule.{Rule}
use Rattle.tup_link.specs.declared.fault.LinkFault.{LinkFault}
use Rattle.tup_link.specs.declared.fault.LinkFault.TheVariants.{TooMany, NoSuchGroup, DuplicateCommand, CircularCommands, Memory}
use Rattle.tup_link.specs.declared.fault.What.{What}
use Rattle.tup_link.specs.declared.fault.What.TheVariants.{Commands, Links}
use Rattle.tup_link.specs.Placed.{Placed, placed, drafts_of}
use Rattle.tup_link.specs.Groups.{members}
use Rattle.tup_link.specs.Linked.{Members, rules_in, rules_of}
use Rattle.tup_link.specs.Circle.{IsCircle, names_at}

-- a limit is passed by so many
abbrev pub too_many : What → ℕ → ℕ → Option LinkFault
too_many what limit count = if nat_lt limit count then Some (TooMany what count) else None

-- there are more than 65,536 commands
abbrev pub too_many_commands : ℕ → Option LinkFault
too_many_commands count = too_many Commands 65536 count

-- the groups that drafts take, in the order of the drafts and of each one's words
abbrev pub taken : List Draft → List GroupRef
taken drafts = flat_map (λ (draft : Draft). draft.groups) drafts

-- the first of some groups that has nothing
abbrev pub missing_group : Members → List GroupRef → Option LinkFault
missing_group group_has groups = option_map NoSuchGroup (find (λ group. length (group_has group) == 0) groups)

-- how many paths a rule declares
abbrev pub links : Rule → ℕ
links rule = length rule.inputs + length rule.order

-- there are more than 4,194,304 declared inputs, so many of them before these rules; they are counted rule by rule, until
-- there are too many
abbrev pub too_many_links : ℕ → List Rule → Option LinkFault
too_many_links before [] = None
too_many_links before (rule ∷ rules) = option_or (too_many Links 4194304 (before + links rule)) (too_many_links (before + links rule) rules)

-- whether two rules are one command of one folder
abbrev pub same_command : Rule → Rule → Bool
same_command rule other = same_path rule.dir other.dir && bytes_eq rule.text other.text

-- the place of the first rule whose command one before it has in its folder, where these stand before the others
abbrev pub repeated : List Rule → List Rule → Option ℕ
repeated before [] = None
repeated before (rule ∷ rules) =
    if list_any (same_command rule) before then Some (length before) else repeated (before ++ rule ∷ []) rules

-- a command that stands twice in a folder, told at the line of the later one
abbrev pub twice : Placed → LinkFault
twice one = DuplicateCommand one.dir one.draft.file one.draft.line

-- the first command that stands twice in its folder
abbrev pub duplicate : List Placed → List Rule → Option LinkFault
duplicate all rules = option_and_then (λ at. option_map twice (slice_get all at)) (repeated [] rules)

-- the first fault of drafts with their rules: too many declared inputs, or a command that stands twice
abbrev pub fault_of_rules : List Placed → List Rule → Option LinkFault
fault_of_rules all rules = option_or (too_many_links 0 rules) (duplicate all rules)

-- the first fault of drafts whose groups are put in: a group that has nothing, or a fault of the rules
abbrev pub fault_of_groups : List Placed → Option LinkFault
fault_of_groups all = option_or (missing_group (members (drafts_of all)) (taken (drafts_of all))) (fault_of_rules all (rules_in all))

-- the first fault of drafts: too many commands, or a fault of the groups
abbrev pub fault_in : List Placed → Option LinkFault
fault_in all = option_or (too_many_commands (length all)) (fault_of_groups all)

-- the same of readings
unfoldable pub early_fault : List (Names × Reading) → Option LinkFault
early_fault readings = fault_in (placed readings)

-- a check that looks for a fault answers just this one, unless there was no memory; where there is none it goes on
abbrev pub Tells : {T : Type 0} → Option LinkFault → Result T LinkFault → Type 0
Tells fault (Ok _) = fault ≡ None
Tells fault (Err told) = (told ≡ Memory) ⊎ (fault ≡ Some told)

-- rules that wait for each other in a circle, by their names
abbrev pub IsCircular : List Rule → LinkFault → Type 0
IsCircular rules fault = (places : List ℕ) × IsCircle rules places × (fault ≡ CircularCommands (names_at rules places))

-- why linking is refused: for want of memory, by the first fault, or, where there is none, by a circle
abbrev pub HasCause : List (Names × Reading) → LinkFault → Type 0
HasCause readings fault =
    (fault ≡ Memory) ⊎ (early_fault readings ≡ Some fault) ⊎ ((early_fault readings ≡ None) × IsCircular (rules_of readings) fault)
