use Rattle.std.proofs.Common.{◌≡◌, length, List, ℕ, refl, sym, ◌∙◌, subst, arith}
use Rattle.std.proofs.lemmas.List.{take_at}
use Rattle.std.proofs.lemmas.Option.{slice_get_read}
use Rattle.tup_clean.specs.Queue.{IsReleased}
use Rattle.tup_clean.proofs.Queueing.{note_bad, note_good}
use Rattle.tup_clean.proofs.queue.Queue.note.Goals as goal

pub returns-else-is_good : goal.returns-else-is_good
returns-else-is_good c = λ rules left good is bad. note_bad rules left good c.args.self.now c.args.at _ (sym c.is_good.ensures ∙ c.if-is_good.false) is

pub returns-in_ok-release : goal.returns-in_ok-release
returns-in_ok-release c = λ rules left good is bad.
    let long : length c.release.new.waits ≡ c.args.self.now.waits.len = omega arith in
    let there = slice_get_read c.args.self.now.readers.items _ c.args.at c.index.result.now refl c.requires.here c.index.ensures in
    note_good rules left good c.args.self.now _ c.args.at _ c.index.result.now c.release.new.waits (sym c.is_good.ensures ∙ c.if-is_good.true) is bad there refl (take_at c.release.new.waits _ _ long)
    (subst (λ (l : List ℕ). IsReleased l c.args.self.now.waits.items c.release.new.waits c.args.self.now.ready c.release.new.ready) c.as_slice.ensures
    (subst (λ (l : List ℕ). IsReleased c.as_slice.result.now l c.release.new.waits c.args.self.now.ready c.release.new.ready) c.deref_mut.ensures.value c.in_ok-release.ensures))
