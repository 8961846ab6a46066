use Rattle.std.proofs.Common.{List, ℕ, ◌≡◌}
use Rattle.std.proofs.lemmas.Result.{IfOk-weaker}
use Rattle.tup_scan_diff.specs.Told.{AreNames}
use Rattle.tup_scan_diff.proofs.Named.{are_names}
use Rattle.tup_scan_diff.proofs.present.Present.names.Goals as goal

pub returns-clause-names : goal.returns-clause-names
returns-clause-names c =
    IfOk-weaker c.listed.result (λ (list : List (List ℕ)). list ≡ c.in_ok-name_set.field-0.keys) (AreNames c.args.self.now c.args.reader.now c.args.dir.now)
    (λ list same. are_names c.args.self.now c.requires.present.0 c.requires.present.1 c.args.reader.now c.args.dir.now c.in_ok-name_set.field-0 list c.in_ok-name_set.ensures.names c.in_ok-name_set.ensures.ordered same)
    c.listed.ensures.listed
