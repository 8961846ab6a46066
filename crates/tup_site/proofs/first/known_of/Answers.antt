use Rattle.std.proofs.Common.{rules, arith, true, false, sym, ap, ◌∙◌, ◌≡◌, take}
use Rattle.std.proofs.lemmas.Bool.{not-true, not-false}
use Rattle.tup_stamp.specs.Stamp.{stamp}
use Rattle.tup_stamp.specs.declared.Stamp.{Stamp}
use Rattle.tup_site.specs.Held.{under, may_take}
use Rattle.tup_site.specs.History.{contents_of}
use Rattle.tup_site.proofs.Listing.{known_next, held_taken, known_refused}
use Rattle.tup_site.proofs.Held.{may_join, may_not_join}
use Rattle.tup_site.proofs.first.known_of.Goals as goal

pub returns-then-not-may_take-clause-same_stamp : goal.returns-then-not-may_take-clause-same_stamp
returns-then-not-may_take-clause-same_stamp c e known =
    let file = c.loop-content-item.result in
    let entries = c.loop-content.known.contents.entries in
    let is : c.may_take.result ≡ false = search (rules, not-true) in
    let key = c.stamp_of-stamp.ensures ∙ ap stamp c.as_slice.ensures in
    let refuses = sym (c.may_take.ensures ∙ ap (λ (s : Stamp). may_take (under entries s) file.1) key) ∙ is in
    known_refused c.args.list.now c.loop-content.content-index file (omega arith) c.loop-content-item.is (may_not_join entries (contents_of (take c.loop-content.content-index c.args.list.now)) file.1 c.loop-content.invariant.held refuses) known

pub loop-content-preserved : goal.loop-content-preserved
loop-content-preserved c =
    let file = c.loop-content-item.result in
    let entries = c.loop-content.known.contents.entries in
    let is : c.may_take.result ≡ true = search (rules, not-false) in
    let key = c.stamp_of-stamp.ensures ∙ ap stamp c.as_slice.ensures in
    let takes = sym (c.may_take.ensures ∙ ap (λ (s : Stamp). may_take (under entries s) file.1) key) ∙ is in
    let may = may_join entries (contents_of (take c.loop-content.content-index c.args.list.now)) file.1 c.loop-content.invariant.held takes in
    record {
      held = held_taken c.args.list.now c.loop-content.content-index file (omega arith) c.loop-content-item.is entries c.take.new.self.contents.entries c.stamp_of-stamp.result c.in_ok-clone.field-0 c.loop-content.invariant.held may key c.in_ok-clone.ensures.cases c.in_ok-take.ensures.taken;
      known = known_next c.args.list.now c.loop-content.content-index file (omega arith) c.loop-content-item.is c.loop-content.invariant.known may;
    }
