use Rattle.std.proofs.Common.{List, ℕ, length, sym, ◌∙◌, subst}
use Rattle.std.specs.Prelude.{OnOk}
use Rattle.tup_clean.specs.Queue.{AreBelow, IsNoted}
use Rattle.tup_core.proofs.links.note_rule.Goals as goal

pub note_each-requires : goal.note_each-requires
note_each-requires c = subst (λ (l : List ℕ). AreBelow l (length c.args.lists.now)) (sym (c.deref.ensures.value ∙ c.in_ok-producers.ensures)) c.requires

pub returns : goal.returns
returns c = subst (λ (l : List ℕ). OnOk c.note_each.result (IsNoted c.args.at l c.args.lists.now c.note_each.new.lists)) (c.deref.ensures.value ∙ c.in_ok-producers.ensures) c.note_each.ensures
