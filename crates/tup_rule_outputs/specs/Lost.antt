-- A commit after which a graph stands for its store no longer (own).
use Rattle.std.specs.Prelude.{◌≡◌, ℕ, Option, None, Some, Bool, IsTrue, refl, option_map}
use Rattle.std.specs.Coded.{Coded, code_by, coded×, coded_ℕ, coded_bool, coded_option}
use Rattle.std.specs.declared.snapshot.Snapshot.{Snapshot}
use Rattle.tup_record.specs.contracts.run.RunRecord as of_run
use Rattle.tup_record.specs.declared.run.RunRecord.{RunRecord}

-- whether the site failed there, or memory was wanting; its rule; and the record that it was to keep, unless it only
-- began a run
pub record Lost : Type 0 where
  pub by_site : Bool
  pub rule : ℕ
  pub run : Option RunRecord

-- it is stored as its fields are
abbrev pub lost_code : Coded Lost
lost_code =
    code_by (Bool × (ℕ × Option RunRecord)) (coded× coded_bool (coded× coded_ℕ (coded_option of_run.the_row.coded)))
    (λ l. (l.by_site, (l.rule, l.run))) (λ p. record { by_site = p.0; rule = p.1.0; run = p.1.1 }) (λ _. refl)

-- a commit was lost to the site
abbrev pub WasLostToSite : Option Lost → Type 0
WasLostToSite lost = (commit : Lost) × (lost ≡ Some commit) × IsTrue commit.by_site

-- the graph still has its nodes: no commit was lost, or one was lost to the site. Where memory was wanting they may be gone
abbrev pub HasNodes : Option Lost → Type 0
HasNodes None = Unit {0}
HasNodes (Some commit) = IsTrue commit.by_site

-- the record that a snapshot remembers
abbrev pub run_in : Option (Snapshot RunRecord) → Option RunRecord
run_in run = option_map (λ (remembered : Snapshot RunRecord). remembered.value) run
