-- What is shown of a large project: the last line of each call but the beginning, as each of them ended in a history (own).
use Rattle.std.specs.Prelude.{◌≡◌, ◌⊎◌, ℕ, ◌+◌, ◌==◌, if◌then◌else◌, true, List, [], ◌∷◌, ◌++◌, map, Option, None, Some, Result, Ok, Err}
use Rattle.tup_site.specs.declared.memory.MemSite.{MemSite}
use Rattle.tup_site.specs.declared.refused.MemRefused.{MemRefused}
use Rattle.tup_site.specs.declared.refused.MemRefused.TheVariants as refusing
use Rattle.tup_mini.specs.Means.{mini_next}
use Rattle.tup_mini.specs.declared.mini.Mini.{Mini}
use Rattle.tup_top.specs.Lines.{compared_line, last_line}
use Rattle.tup_top.specs.declared.status.Status.{Status}
use Rattle.tup_top.specs.declared.status.Status.TheVariants.{Done, Usage, SiteFault, Memory}
use Rattle.tup_history.specs.History.{Standing, AreLived}
use Rattle.tup_history.specs.Kept.{Unbegun}
use Rattle.tup_history.specs.Stays.{AreKept}
use Rattle.tup_history.specs.declared.turn.End.{End}
use Rattle.tup_large.specs.Project.{IsNew, RefusesFiles, large_files}
use Rattle.tup_large.specs.Turns.{beginning, comparison, turns}

-- ---- the lines

-- the last line of the call at a place that ended so; that of the beginning isn't shown
abbrev pub call_line : ℕ → Status → List ℕ
call_line at status = if at == beginning then [] else if at == comparison then compared_line status else last_line status

-- what is shown of the turn at a place that ended so: of an edit nothing
abbrev pub line_at : ℕ → Option Status → List ℕ
line_at at None = []
line_at at (Some status) = call_line at status

-- what is shown of turns that ended so, the first of which has a place
abbrev pub ends_lines : ℕ → List End → List ℕ
ends_lines at [] = []
ends_lines at (end ∷ ends) = line_at at end.status ++ ends_lines (at + 1) ends

-- the status of what the site in memory refused: it failed, but for want of memory
abbrev pub refusal : MemRefused → Status
refusal refusing.Memory = Memory
refusal other = SiteFault

-- the line of a turn that was refused
abbrev pub refusal_line : Option (ℕ × MemRefused) → List ℕ
refusal_line None = []
refusal_line (Some (at, why)) = last_line (refusal why)

-- what is shown of a project whose turns ended so
abbrev pub life_lines : List End → Option (ℕ × MemRefused) → List ℕ
life_lines ends refused = ends_lines 0 ends ++ refusal_line refused

-- ---- the status

-- a status, or where it says that all was done what comes after it
abbrev pub or_later : Status → Status → Status
or_later (Done read ran removed) later = later
or_later other later = other

-- the same of a turn, which has no status where it was an edit
abbrev pub of_end : Option Status → Status → Status
of_end None later = later
of_end (Some status) later = or_later status later

-- of turns that ended so the first status that doesn't say that all was done, or what comes after them
abbrev pub first_other : List End → Status → Status
first_other [] later = later
first_other (end ∷ ends) later = of_end end.status (first_other ends later)

-- what comes after the last turn that was carried out: all was done, or a turn was refused
abbrev pub at_last : Option (ℕ × MemRefused) → Status
at_last None = Done 0 0 0
at_last (Some (at, why)) = refusal why

-- the status of a project whose turns ended so: Done, or the first other one
abbrev pub life_status : List End → Option (ℕ × MemRefused) → Status
life_status ends refused = first_other ends (at_last refused)

-- ---- the history

-- one runner, which has run nothing
abbrev pub IsIdle : List Mini → Type 0
IsIdle crew = map (λ (mini : Mini). mini.ran) crew ≡ [] ∷ []

-- how a project stands before its first turn, with such a runner and an empty sink
abbrev pub at_first : MemSite → Standing
at_first site = record { site = site; runners = 0 ∷ []; commands = Some ([] ∷ []); sink = 0; held = Some [] }

-- The turns of a project of so many folders ended so: they are a history from a site that was just made of its files. From its
-- beginning on the project is kept, and each update that is done leaves exactly the files of a clean build.
pub record IsLife (folders : ℕ) (ends : List End) (refused : Option (ℕ × MemRefused)) : Type 0 where
  pub site : MemSite
  pub made : IsNew (large_files folders) site
  pub to : Standing
  pub lived : AreLived true mini_next turns ends refused (at_first site) to
  pub kept : AreKept true mini_next turns ends (at_first site) to Unbegun

-- ---- the answer

-- these lines and this status are shown; or nothing, and that there was no memory for them
abbrev pub Gives : List ℕ → Status → List ℕ → Status → Type 0
Gives text status lines answer = ((lines ≡ text) × (answer ≡ status)) ⊎ ((lines ≡ []) × (answer ≡ Memory))

-- the last lines of a history from the project's site, and Done or the first other status
abbrev pub ShowsLife : ℕ → List ℕ → Status → Type 0
ShowsLife folders lines answer = (ends : List End) × (refused : Option (ℕ × MemRefused)) × IsLife folders ends refused × Gives (life_lines ends refused) (life_status ends refused) lines answer

-- that the site couldn't be made, and why
abbrev pub ShowsRefusal : ℕ → List ℕ → Status → Type 0
ShowsRefusal folders lines answer = (why : MemRefused) × RefusesFiles (large_files folders) why × Gives (last_line (refusal why)) (refusal why) lines answer

-- what is shown for a number of folders, or where a word can't stand
abbrev pub Shows : Result ℕ ℕ → List ℕ → Status → Type 0
Shows (Ok folders) lines answer = ShowsLife folders lines answer ⊎ ShowsRefusal folders lines answer
Shows (Err place) lines answer = Gives (last_line (Usage place)) (Usage place) lines answer
