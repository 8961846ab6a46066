use Rattle.std.proofs.Common.{◌≡◌, rules, true, false, sym, ap, ◌∙◌}
use Rattle.std.proofs.lemmas.Bool.{not-true, not-false}
use Rattle.tup_stamp.specs.Stamp.{stamp}
use Rattle.tup_stamp.specs.declared.Stamp.{Stamp}
use Rattle.tup_site.specs.Held.{under, may_take}
use Rattle.tup_site.proofs.Held.{may_join, may_not_join, held_more}
use Rattle.tup_site.proofs.Kept.{taken_so}
use Rattle.tup_site.proofs.known.Known.take_up.Goals as goal

pub returns-then-not-may_take-clause-same_stamp : goal.returns-then-not-may_take-clause-same_stamp
returns-then-not-may_take-clause-same_stamp c e contents held may =
    let entries = c.args.self.now.contents.entries in
    let content = c.args.content.now in
    let is : c.may_take.result ≡ false = search (rules, not-true) in
    let key = c.stamp_of-stamp.ensures ∙ ap stamp c.as_slice.ensures in
    may_not_join entries contents content held (sym (c.may_take.ensures ∙ ap (λ (s : Stamp). may_take (under entries s) content) key) ∙ is) may

pub returns-clause-held : goal.returns-clause-held
returns-clause-held c contents held =
    let entries = c.args.self.now.contents.entries in
    let content = c.args.content.now in
    let is : c.may_take.result ≡ true = search (rules, not-false) in
    let key = c.stamp_of-stamp.ensures ∙ ap stamp c.as_slice.ensures in
    let may = may_join entries contents content held (sym (c.may_take.ensures ∙ ap (λ (s : Stamp). may_take (under entries s) content) key) ∙ is) in
    let taken = taken_so entries c.take.new.self.contents.entries c.stamp_of-stamp.result c.in_ok-clone.field-0 content key c.in_ok-clone.ensures.cases c.in_ok-take.ensures.taken in
    held_more entries c.take.new.self.contents.entries contents content held may taken
