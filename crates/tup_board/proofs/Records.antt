-- The record of a run, ask by ask.
use Rattle.std.proofs.Common.{◌≡◌, ℕ, List, [], ◌∷◌, ◌++◌, Option}
use Rattle.std.specs.Prelude.{Ok}
use Rattle.tup_path.specs.Name.{Names}
use Rattle.tup_path.specs.Resolve.{resolve}
use Rattle.tup_stamp.specs.declared.Stamp.{Stamp}
use Rattle.tup_board.specs.Ends.{AreRecorded}

pub recorded_more : (dir : Names) (asks : List (List ℕ × Option Stamp)) (paths : List (Names × Option Stamp)) (ask : List ℕ × Option Stamp) (noted : Names × Option Stamp)
    → AreRecorded dir asks paths → resolve dir ask.0 ≡ Ok noted.0 → noted.1 ≡ ask.1 → AreRecorded dir (asks ++ ask ∷ []) (paths ++ noted ∷ [])
recorded_more dir [] [] ask noted recorded named same = (named, same, tt)
recorded_more dir [] (one ∷ more) ask noted recorded named same = absurd recorded
recorded_more dir (one ∷ asks) [] ask noted recorded named same = absurd recorded
recorded_more dir (one ∷ asks) (first ∷ paths) ask noted recorded named same = (recorded.0, recorded.1, recorded_more dir asks paths ask noted recorded.2 named same)
