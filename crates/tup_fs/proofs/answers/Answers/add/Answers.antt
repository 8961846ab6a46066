use Rattle.std.proofs.Common.{◌≡◌, string_bytes, List, ℕ, subst, sym, ◌∙◌}
use Rattle.tup_fs.specs.Answers.{known_at}
use Rattle.tup_fs.specs.declared.answers.Known.TheVariants.{Unknown}
use Rattle.tup_fs.proofs.Learning.{still_known}
use Rattle.tup_fs.proofs.answers.Answers.add.Goals as goal

pub returns-in-Unknown-clause-keeps : goal.returns-in-Unknown-clause-keeps
returns-in-Unknown-clause-keeps c =
    let old = c.args.self.now in
    let none = subst (λ (p : List ℕ). known_at old p ≡ Unknown) c.as_str.ensures.value (sym c.known_at.ensures ∙ c.in-Unknown.is) in
    still_known old c.learn.new.self (string_bytes c.args.file.place) c.listed-known.result c.learn.result none c.learn.ensures.learns c.learn.ensures.unchanged
