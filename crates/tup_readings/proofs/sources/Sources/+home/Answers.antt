use Rattle.std.proofs.Common.{[], ◌∷◌, length, sym, ap, ◌∙◌, arith, length-append}
use Rattle.std.proofs.lemmas.Result.{MatchResult-weaker}
use Rattle.tup_path.specs.Name.{Names}
use Rattle.tup_readings.proofs.Indexed.{parent_is, no_parent, home_here, home_up, home_nowhere}
use Rattle.tup_readings.proofs.sources.Sources.+home.Goals as goal

pub home-requires : goal.home-requires
home-requires t c =
    let up = parent_is c.args.dir.now c.in-Ok-Some.up (rw c.in-Ok-Some.field-0-is at c.in-Ok-Some.ensures) in
    (omega (arith, ap (λ (dir : Names). length dir) up.1, length-append c.in-Ok-Some.up (up.0 ∷ [])), tt)

pub returns-in-Some : goal.returns-in-Some
returns-in-Some t c =
    let inside = c.self.inside in
    home_here inside.files.now c.args.self.now c.self.invariant.0 c.self.view_is inside.tupfiles c.self.invariant.2 c.args.dir.now c.in-Some.home.now (sym c.in-Some.ensures.variant) c.in-Some.ensures.same_key

pub returns-in-Ok-Some : goal.returns-in-Ok-Some
returns-in-Ok-Some t c =
    let inside = c.self.inside in
    let up = parent_is c.args.dir.now c.in-Ok-Some.up (rw c.in-Ok-Some.field-0-is at c.in-Ok-Some.ensures) in
    let same = home_up inside.files.now c.args.self.now c.self.invariant.0 c.self.view_is inside.tupfiles c.self.invariant.2 c.args.dir.now c.in-Ok-Some.up (sym c.in_default.ensures.variant) up in
    MatchResult-weaker c.home.result c.home.ensures (λ home e. e ∙ same) (λ fault no. tt)

pub returns-in-Ok-None : goal.returns-in-Ok-None
returns-in-Ok-None t c =
    let inside = c.self.inside in
    home_nowhere inside.files.now c.args.self.now c.self.invariant.0 c.self.view_is inside.tupfiles c.self.invariant.2 c.args.dir.now (sym c.in_default.ensures.variant) (no_parent c.args.dir.now (rw c.in-Ok-None.field-0-is at c.in-Ok-None.ensures))
