-- What a seat's command asked names paths, so that there is a record of it.
use Rattle.std.proofs.Common.{◌≡◌, ℕ, List, [], ◌∷◌, Option, refl, sym, ap, ◌∙◌}
use Rattle.std.specs.Prelude.{Ok, Result}
use Rattle.std.proofs.lemmas.List.Elements.{All-head, All-tail, All-weaker}
use Rattle.tup_path.specs.Name.{Names}
use Rattle.tup_path.specs.declared.fault.PathFault.{PathFault}
use Rattle.tup_stamp.specs.declared.Stamp.{Stamp}
use Rattle.tup_rule.specs.declared.rule.Rule.{Rule}
use Rattle.tup_core.specs.declared.event.CoreEvent.{CoreEvent}
use Rattle.tup_core.specs.declared.plan.Plan.{Plan}
use Rattle.tup_core.specs.declared.running.Running.{Running}
use Rattle.tup_core.specs.Run.{IsRun, end_of}
use Rattle.tup_core.specs.Sound.{HasOneMaker, Stands}
use Rattle.tup_core.specs.Step.{Runs, opening}
use Rattle.tup_core.proofs.Standing.{asks_stand}
use Rattle.tup_board.specs.Ends.{IsNamed, AreNamed, AreRecorded}

pub asks_named : (plan : Plan) (files : List (Names × Stamp)) (events : List CoreEvent) → HasOneMaker plan → IsRun plan (opening plan files) events
    → (seat : ℕ) (running : Running) (rule : Rule) → Runs plan (end_of plan (opening plan files) events) seat running rule → AreNamed rule.dir running.asks
asks_named plan files events one run seat running rule runs =
    All-weaker (Stands plan (end_of plan (opening plan files) events) rule) (λ (ask : List ℕ × Option Stamp). IsNamed rule.dir ask.0) (λ ask stands. (stands.path, stands.named)) running.asks
    (asks_stand plan files events one run seat running rule runs)

-- what names paths can be recorded
pub recorded : (dir : Names) (asks : List (List ℕ × Option Stamp)) → AreNamed dir asks → (paths : List (Names × Option Stamp)) × AreRecorded dir asks paths
recorded dir [] named = ([], tt)
recorded dir (ask ∷ asks) named =
    let first = All-head (λ (one : List ℕ × Option Stamp). IsNamed dir one.0) ask asks named in
    let more = recorded dir asks (All-tail (λ (one : List ℕ × Option Stamp). IsNamed dir one.0) ask asks named) in
    ((first.0, ask.1) ∷ more.0, (first.1, refl, more.1))

same_path_named : (one other : Names) → (let found : Result Names PathFault = Ok one in found) ≡ Ok other → one ≡ other
same_path_named one other e = cc

-- and in one way
pub one_recorded : (dir : Names) (asks : List (List ℕ × Option Stamp)) (paths others : List (Names × Option Stamp)) → AreRecorded dir asks paths → AreRecorded dir asks others → paths ≡ others
one_recorded dir [] [] [] one other = refl
one_recorded dir [] [] (noted ∷ more) one other = absurd other
one_recorded dir [] (noted ∷ more) others one other = absurd one
one_recorded dir (ask ∷ asks) [] others one other = absurd one
one_recorded dir (ask ∷ asks) (noted ∷ paths) [] one other = absurd other
one_recorded dir (ask ∷ asks) (noted ∷ paths) (named ∷ others) one other =
    ap (λ (path : Names). (path, noted.1) ∷ paths) (same_path_named noted.0 named.0 (sym one.0 ∙ other.0))
    ∙ ap (λ (given : Option Stamp). (named.0, given) ∷ paths) (one.1 ∙ sym other.1)
    ∙ ap (λ (rest : List (Names × Option Stamp)). named ∷ rest) (one_recorded dir asks paths others one.2 other.2)
