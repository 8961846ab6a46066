-- How an event is written (the wording is own).
use Rattle.std.specs.Prelude.{ℕ, List, [], ◌∷◌, ◌++◌, codes}
use Rattle.tup_path.specs.Show.{show}
use Rattle.tup_access.specs.declared.verdict.Verdict.{Verdict}
use Rattle.tup_access.specs.declared.verdict.Verdict.TheVariants.{Good}
use Rattle.tup_tell.specs.declared.event.Event.{Event}
use Rattle.tup_tell.specs.declared.event.Event.TheVariants.{Read, Removed, Started, Ended}

-- whether a verdict is good, in a word
abbrev pub worth : Verdict → List ℕ
worth Good = codes "good"
worth other = codes "bad"

-- the line of an event
abbrev pub event_line : Event → List ℕ
event_line (Read dir) = codes "read " ++ (show dir ++ 10 ∷ [])
event_line (Removed path) = codes "removed " ++ (show path ++ 10 ∷ [])
event_line (Started rule) = codes "started " ++ (show rule.dir ++ (codes ": " ++ (rule.text ++ 10 ∷ [])))
event_line (Ended rule verdict) = codes "ended " ++ (show rule.dir ++ (codes ": " ++ (rule.text ++ (codes ": " ++ (worth verdict ++ 10 ∷ [])))))
