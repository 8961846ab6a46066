-- What is printed of an update (the wording is own): a line for each thing done, and a last one for how it ended.
use Rattle.std.specs.Prelude.{ℕ, ◌+◌, if◌then◌else◌, List, [], ◌∷◌, ◌++◌, drop, fold, take, Option, None, Some, slice_get, slice_index_or, unwrap_or, codes, decimal, Result, Ok, Err}
use Rattle.std.specs.List.{flat_map, position_or_len}
use Rattle.tup_path.specs.Name.{Names}
use Rattle.tup_path.specs.Order.{same_path}
use Rattle.tup_path.specs.Show.{show}
use Rattle.tup_rule.specs.declared.draft.GroupRef.{GroupRef}
use Rattle.tup_rule.specs.declared.rule.RuleName.{RuleName}
use Rattle.tup_lex.specs.ParseKind.{kind_text}
use Rattle.tup_clean.specs.Clean.{is_good}
use Rattle.tup_query.specs.declared.fault.ParseFault.{ParseFault}
use Rattle.tup_compare.specs.Compared.{first_of}
use Rattle.tup_promise.specs.declared.log.EndedRule.{EndedRule}
use Rattle.tup_promise.specs.declared.log.Log.{Log}
use Rattle.tup_promise.specs.declared.stop.Stop.{Stop}
use Rattle.tup_todo.specs.declared.listing.DueRule.{DueRule}
use Rattle.tup_todo.specs.declared.todo.Todo.{Todo}
use Rattle.tup_top.specs.declared.status.Status.{Status}
use Rattle.tup_top.specs.declared.status.Status.TheVariants.{Done, Command, IllegalRead, IllegalWrite, Unwritten, TooManyReads, Usage, NotInit, AlreadyInit, BadStore, Parse, CircularDirs, CircularCommands, NoSuchGroup, UserFile, SiteFault, RunFault, SinkFault, TellFault, Limit, Memory, Differs}
use Rattle.tup_top.specs.declared.status.What.{What}
use Rattle.tup_top.specs.declared.status.What.TheVariants.{Files, FileSize, Commands, Links, StoreSize}

-- a folder whose Tupfile was read
abbrev pub read_line : Names → List ℕ
read_line dir = codes "read " ++ (show dir ++ 10 ∷ [])

-- a file that was removed
abbrev pub removed_line : Names → List ℕ
removed_line path = codes "remove " ++ (show path ++ 10 ∷ [])

-- what became of a rule that ended, `DIR: LABEL` behind it
abbrev pub ended_line : EndedRule → List ℕ
ended_line ended =
    (if is_good (Some ended.verdict) then codes "run " else codes "bad ") ++ (show ended.rule.dir ++ (codes ": " ++ (ended.label ++ 10 ∷ [])))

-- why a rule was run; nothing where there is no chain
abbrev pub because_line : Option (List ℕ) → List ℕ
because_line None = []
because_line (Some chain) = codes "  because " ++ (chain ++ 10 ∷ [])

-- the chain at a place, where there is one
abbrev pub chain_at : List (Option (List ℕ)) → ℕ → Option (List ℕ)
chain_at chains at = slice_index_or chains at None

-- what became of rules that ended, from this place on, and behind each why it was run
abbrev pub ended_lines : ℕ → List EndedRule → List (Option (List ℕ)) → List ℕ
ended_lines at [] chains = []
ended_lines at (one ∷ more) chains = ended_line one ++ (because_line (chain_at chains at) ++ ended_lines (at + 1) more chains)

-- a file that an update would remove
abbrev pub removes_line : Names → List ℕ
removes_line path = codes "todo remove " ++ (show path ++ 10 ∷ [])

-- a rule that it would run
abbrev pub runs_line : DueRule → List ℕ
runs_line due = codes "todo run " ++ (show due.rule.dir ++ (codes ": " ++ (due.label ++ 10 ∷ [])))

-- what has a limit
abbrev pub what_text : What → List ℕ
what_text Files = codes "Files"
what_text FileSize = codes "FileSize"
what_text Commands = codes "Commands"
what_text Links = codes "Links"
what_text StoreSize = codes "StoreSize"

-- a fault of the command of a rule: `DIR: COMMAND`, and what it did
abbrev pub rule_fault : RuleName → List ℕ → List ℕ
rule_fault rule did = codes "fault: " ++ (show rule.dir ++ (codes ": " ++ (rule.text ++ did)))

-- `FILE:LINE: TEXT, read for DIR`
abbrev pub parse_fault : ParseFault → List ℕ
parse_fault fault =
    codes "fault: " ++ (show fault.file ++ (codes ":" ++ (decimal fault.line ++ (codes ": " ++ (kind_text fault.kind ++ (codes ", read for " ++ show fault.dir))))))

-- a folder with an arrow behind it
abbrev pub folder_arrow : Names → List ℕ
folder_arrow dir = show dir ++ codes " -> "

-- the same of a rule
abbrev pub rule_arrow : RuleName → List ℕ
rule_arrow rule = show rule.dir ++ (codes ": " ++ (rule.text ++ codes " -> "))

-- rules in a circle: from the first on, and that one again at the end
abbrev pub rules_circle : List RuleName → List ℕ
rules_circle [] = []
rules_circle (first ∷ rest) = flat_map rule_arrow (first ∷ rest) ++ (show first.dir ++ (codes ": " ++ first.text))

-- of some folders the one that comes first in the order of paths; of none the top
abbrev pub first_among : List Names → Names
first_among dirs = fold first_of (unwrap_or (slice_get dirs 0) []) dirs

-- where it stands
abbrev pub place_of_first : List Names → ℕ
place_of_first dirs = position_or_len (λ dir. same_path dir (first_among dirs)) dirs

-- folders in a circle: from the first of them in the order of paths on, those before it, and that one again at the end
abbrev pub folders_circle : List Names → List ℕ
folders_circle dirs =
    elim (slice_get dirs (place_of_first dirs)) [
      | Some first ↦ flat_map folder_arrow (drop (place_of_first dirs) dirs) ++ (flat_map folder_arrow (take (place_of_first dirs) dirs) ++ show first)
      | None ↦ []
    ]

-- what stands before a name in a folder; nothing for the top
abbrev pub folder_text : Names → List ℕ
folder_text [] = []
folder_text (name ∷ names) = show (name ∷ names) ++ codes "/"

-- a group, `<NAME>` or `DIR/<NAME>`
abbrev pub group_text : GroupRef → List ℕ
group_text group = folder_text group.dir ++ (codes "<" ++ (group.name ++ codes ">"))

-- how an order ended
abbrev pub status_text : Status → List ℕ
status_text (Done read ran removed) =
    codes "done: " ++ (decimal read ++ (codes " read, " ++ (decimal ran ++ (codes " run, " ++ (decimal removed ++ codes " removed")))))
status_text (Command rule status) = rule_fault rule (codes ": status " ++ decimal status)
status_text (IllegalRead rule text) = rule_fault rule (codes ": reads " ++ text)
status_text (IllegalWrite rule text) = rule_fault rule (codes ": writes " ++ text)
status_text (Unwritten rule path) = rule_fault rule (codes ": doesn't write " ++ show path)
status_text (TooManyReads rule) = rule_fault rule (codes ": reads too often")
status_text (Usage place) = codes "fault: usage, word " ++ decimal place
status_text NotInit = codes "fault: no tup project here"
status_text AlreadyInit = codes "fault: already a tup project"
status_text (BadStore offset) = codes "fault: the store is damaged at byte " ++ decimal offset
status_text (Parse fault) = parse_fault fault
status_text (CircularDirs cycle) = codes "fault: directories wait for each other: " ++ folders_circle cycle
status_text (CircularCommands cycle) = codes "fault: commands wait for each other: " ++ rules_circle cycle
status_text (NoSuchGroup group) = codes "fault: no rule gives to " ++ group_text group
status_text (UserFile path) = codes "fault: " ++ (show path ++ codes " was changed by hand and no rule makes it")
status_text SiteFault = codes "fault: the file tree or the store failed"
status_text RunFault = codes "fault: the runner failed"
status_text SinkFault = codes "fault: the output failed"
status_text TellFault = codes "fault: a reporter failed"
status_text (Limit what number) = codes "fault: limit " ++ (what_text what ++ (codes ", " ++ decimal number))
status_text Memory = codes "fault: no memory"
status_text (Differs path) = codes "differs: " ++ show path

-- the last line
abbrev pub last_line : Status → List ℕ
last_line status = status_text status ++ 10 ∷ []

-- the line of a beginning
abbrev pub begun_line : Status → List ℕ
begun_line (Done read ran removed) = codes "initialized" ++ 10 ∷ []
begun_line other = last_line other

-- the line of a comparison
abbrev pub compared_line : Status → List ℕ
compared_line (Done read ran removed) = codes "same" ++ 10 ∷ []
compared_line other = last_line other

-- all lines of an update with this log, and with these chains of its rules
abbrev pub lines : Log → List (Option (List ℕ)) → Status → List ℕ
lines log chains status =
    flat_map read_line log.read ++ (flat_map removed_line log.removed ++ (ended_lines 0 log.ended chains ++ last_line status))

-- the lists of what an update would do, behind the folders that were read
abbrev pub listed_lines : Todo → List ℕ
listed_lines todo = flat_map read_line todo.read ++ (flat_map removes_line todo.removes ++ flat_map runs_line todo.runs)

-- all lines of what an update would do, the last one for this status
abbrev pub todo_lines : Result Todo Stop → Status → List ℕ
todo_lines (Ok todo) status = listed_lines todo ++ last_line status
todo_lines (Err stop) status = last_line status
