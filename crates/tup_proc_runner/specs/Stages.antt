-- The names of stages, and of what is beside them.
use Rattle.std.specs.Prelude.{ℕ, List, ◌∷◌, ◌++◌, codes, decimal}
use Rattle.tup_proc_runner.specs.declared.stages.Stages.{Stages}

-- the name of the stage of the command behind so many others of a runner: it tells the update, the runner's number and how many
abbrev pub name_of : Stages → ℕ → List ℕ
name_of stages count = stages.update ++ (45 ∷ decimal stages.seat ++ (45 ∷ decimal count))

-- the place of that stage
abbrev pub stage_of : Stages → ℕ → List ℕ
stage_of stages count = stages.above ++ (47 ∷ name_of stages count)

-- where what the commands of a runner print may be kept
abbrev pub printed_of : Stages → List ℕ
printed_of stages = stages.above ++ (47 ∷ stages.update ++ (45 ∷ decimal stages.seat ++ codes ".printed"))
