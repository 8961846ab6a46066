-- The steps of a small command (own).
use Rattle.std.specs.Prelude.{Bool, if◌then◌else◌, ℕ, List, [], ◌∷◌, ◌++◌, map, None, Some, codes, bytes_eq}
use Rattle.std.specs.List.{slice_split}
use Rattle.tup_path.specs.Name.{Content}
use Rattle.tup_mini.specs.Words.{words, has_stray_arrow, redirected, status_of}
use Rattle.tup_mini.specs.declared.step.MiniStep.{MiniStep}
use Rattle.tup_mini.specs.declared.step.MiniStep.TheVariants.{Join, Echo, Include, IfExists, Stop}

-- `cp FROM TO`
abbrev pub copy_step : List (List ℕ) → MiniStep
copy_step (from ∷ to ∷ []) = Join (from ∷ []) to
copy_step arguments = Stop 2

-- `cat FROM.. > TO`
abbrev pub join_step : List (List ℕ) → MiniStep
join_step arguments = elim (redirected arguments) [ Some p ↦ Join p.0 p.1 | None ↦ Stop 2 ]

-- `echo WORD.. > TO`
abbrev pub echo_step : List (List ℕ) → MiniStep
echo_step arguments = elim (redirected arguments) [ Some p ↦ Echo p.0 p.1 | None ↦ Stop 2 ]

-- `incl FROM TO`
abbrev pub include_step : List (List ℕ) → MiniStep
include_step (from ∷ to ∷ []) = Include from to
include_step arguments = Stop 2

-- `ifexists PROBE FROM TO`
abbrev pub if_exists_step : List (List ℕ) → MiniStep
if_exists_step (probe ∷ from ∷ to ∷ []) = IfExists probe from to
if_exists_step arguments = Stop 2

-- `fail N`
abbrev pub fail_step : List (List ℕ) → MiniStep
fail_step (status ∷ []) = Stop (status_of status)
fail_step arguments = Stop 2

-- the step of some words: no word, a stray arrow or a wrong number of words gives status 2, an unknown first word 127
abbrev pub step_of : List (List ℕ) → MiniStep
step_of [] = Stop 2
step_of (name ∷ arguments) =
    if has_stray_arrow (name ∷ arguments) then Stop 2
    else if bytes_eq name (codes "cp") then copy_step arguments
    else if bytes_eq name (codes "cat") then join_step arguments
    else if bytes_eq name (codes "echo") then echo_step arguments
    else if bytes_eq name (codes "incl") then include_step arguments
    else if bytes_eq name (codes "ifexists") then if_exists_step arguments
    else if bytes_eq name (codes "fail") then fail_step arguments
    else Stop 127

-- the word that parts steps
abbrev pub is_and : List ℕ → Bool
is_and word = bytes_eq word (codes "&&")

-- the steps of a command
abbrev pub steps_of : List ℕ → List MiniStep
steps_of text = map step_of (slice_split is_and (words text))

-- words parted by one blank, with a line feed behind them
abbrev pub echoed : List (List ℕ) → Content
echoed [] = 10 ∷ []
echoed (word ∷ []) = word ++ 10 ∷ []
echoed (word ∷ next ∷ words) = word ++ 32 ∷ echoed (next ∷ words)
