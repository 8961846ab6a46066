use Rattle.std.proofs.Common.{refl, subst, sym, ◌∙◌}
use Rattle.tup_fs.specs.Answers.{IsNext}
use Rattle.tup_fs.proofs.Learning.{noted}
use Rattle.tup_fs.proofs.answers.Answers.learn.Goals as goal

pub learn_next-requires : goal.learn_next-requires
learn_next-requires c =
    subst (IsNext c.args.self.now) (c.as_str.ensures.value ∙ sym c.as_str-then-is_next.ensures.value) (c.is_next.ensures c.if-is_next.true)

pub returns-clause-learns : goal.returns-clause-learns
returns-clause-learns c =
    let old = c.args.self.now in
    noted old (record { places = c.insert_full.new.self; next = c.saturating_add-self.result; is_listed = old.is_listed }) c.args.place c.args.known refl c.in_ok-at.ensures.updates
