use Rattle.std.proofs.Common.{◌∙◌, ◌++◌, ap, List, ℕ}
use Rattle.std.proofs.lemmas.Result.{on_ok_weaker}
use Rattle.tup_strace.specs.Acts as specs
use Rattle.tup_strace.proofs.acts.Acts.open.Goals as goal

pub returns : goal.returns
returns c =
    on_ok_weaker c.open_by.result (λ same. same ∙ ap (λ (words : List (List ℕ)). c.args.self.now.list ++ specs.opening words c.args.place.now c.args.follows) c.as_slice.ensures) c.open_by.ensures
