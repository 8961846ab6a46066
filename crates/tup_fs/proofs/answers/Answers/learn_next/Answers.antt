use Rattle.std.proofs.Common.{refl}
use Rattle.indexmap.specs.IndexMap.{with_value_at}
use Rattle.tup_fs.proofs.Learning.{noted_next}
use Rattle.tup_fs.proofs.answers.Answers.learn_next.Goals as goal

pub returns-clause-learns : goal.returns-clause-learns
returns-clause-learns c =
    let old = c.args.self.now in
    let places = with_value_at old.places old.next c.args.known in
    noted_next old (record { places = places; next = c.saturating_add-self.result; is_listed = old.is_listed }) c.args.place.now c.args.known refl c.pair_mut-there.ensures.unique refl c.requires
