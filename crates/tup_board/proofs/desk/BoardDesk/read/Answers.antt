use Rattle.std.proofs.Common.{◌≡◌, None, Err, sym, ap, ◌∙◌, subst}
use Rattle.std.specs.Prelude.{IsTrue}
use Rattle.tup_rule_outputs.specs.declared.fault.BoardFault.{BoardFault}
use Rattle.tup_rule_outputs.specs.declared.fault.BoardFault.TheVariants.{Full}
use Rattle.tup_rule_outputs.specs.Fault.{CountsFaults}
use Rattle.tup_rule_outputs.specs.Ground.{NamesLength, OnlyLarge}
use Rattle.tup_board.specs.Board.{BoardState}
use Rattle.tup_board.specs.Calls.{Asks}
use Rattle.tup_board.proofs.Answering.{asks_after, fault_after, fault_true, read_sound, stamp_after, told_after}
use Rattle.tup_board.proofs.Keeping.{kept_same}
use Rattle.tup_board.proofs.Stamps.{has_read}
use Rattle.tup_board.proofs.desk.BoardDesk.read.Goals as goal

pub invariant_of-self : goal.invariant_of-self
invariant_of-self g c =
    let site_laws = g.met.S.Site in
    (c.self.invariant.0, read_sound g.S.Site g.R.Runner _ _ _ _ _ _ _ c.self.invariant.0 c.self.invariant.1 c.self.view_is c.get.new.self c.get.ensures.reads site_laws.earlier c.get.ensures.cause.later, kept_same g.S.Site _ _ _ c.get.ensures.reads.known c.self.invariant.2, has_read g.S.Site c.self.inside.ground c.get.new.self c.self.inside.course c.get.ensures.reads c.self.invariant.3)

pub tell_read-requires-clause-asks_for : goal.tell_read-requires-clause-asks_for
tell_read-requires-clause-asks_for g c =
    let site_laws = g.met.S.Site in
    asks_after g.S.Site g.R.Runner _ _ _ _ _ _ _ c.self.invariant.0 c.self.invariant.1 c.self.view_is c.get.new.self c.get.ensures.reads site_laws.earlier c.get.ensures.cause.later c.args.seat c.args.text.now c.args.path.now c.requires.asks_for

pub tell_read-requires-clause-seen : goal.tell_read-requires-clause-seen
tell_read-requires-clause-seen g c =
    let site_laws = g.met.S.Site in
    stamp_after g.S.Site g.R.Runner _ _ _ _ _ _ _ c.self.invariant.0 c.self.invariant.1 c.self.view_is c.get.new.self c.get.ensures.reads site_laws.earlier c.get.ensures.cause.later c.args.path.now c.args.seen c.requires.seen

pub returns-in-Ok : goal.returns-in-Ok
returns-in-Ok g c =
    let site_laws = g.met.S.Site in
    let steady = c.get.ensures.cause.steady (λ e. let clash = sym c.in-Ok.is ∙ e in cc) in
    record { asks = told_after g.S.Site g.R.Runner _ _ _ _ _ _ _ c.self.invariant.0 c.self.invariant.1 c.self.view_is c.get.new.self c.get.ensures.reads site_laws.earlier c.get.ensures.cause.later c.args.seat c.args.text.now c.args.path.now c.requires.asks_for c.tell_read.result c.tell_read.new.self steady c.tell_read.ensures.asks }

pub invariant_of-self-in-Err : goal.invariant_of-self-in-Err
invariant_of-self-in-Err g c =
    let site_laws = g.met.S.Site in
    (c.self.invariant.0, read_sound g.S.Site g.R.Runner _ _ _ _ _ _ _ c.self.invariant.0 c.self.invariant.1 c.self.view_is c.get.new.self c.get.ensures.reads site_laws.earlier c.get.ensures.cause.later, kept_same g.S.Site _ _ _ c.get.ensures.reads.known c.self.invariant.2, has_read g.S.Site c.self.inside.ground c.get.new.self c.self.inside.course c.get.ensures.reads c.self.invariant.3)

pub fail-requires-clause-true_cause : goal.fail-requires-clause-true_cause
fail-requires-clause-true_cause g c =
    let site_laws = g.met.S.Site in
    let fault = c.in-Err.fault in
    let other = λ (e : fault ≡ Full). c.get.ensures.never_full (c.in-Err.is ∙ ap Err e) in
    let large = subst OnlyLarge c.in-Err.is c.get.ensures.too_large in
    let named = λ (tells : IsTrue g.S.Site.tells). subst (NamesLength (g.S.Site.world c.self.inside.ground.site).tree c.args.path.now) c.in-Err.is (c.get.ensures.length tells) in
    let counts = subst (CountsFaults (g.S.Site.faults c.self.inside.ground.site) (g.S.Site.faults c.get.new.self.site) None) c.in-Err.is c.get.ensures.cause in
    fault_true g.S.Site g.R.Runner _ _ _ _ _ _ _ c.self.invariant.0 c.self.invariant.1 c.self.view_is c.get.new.self c.get.ensures.reads site_laws.earlier c.get.ensures.cause.later c.args.seat c.args.text.now c.args.path.now c.requires.asks_for fault other large named counts

pub returns-in-Err : goal.returns-in-Err
returns-in-Err g c =
    let site_laws = g.met.S.Site in
    let fault = c.in-Err.fault in
    let other = λ (e : fault ≡ Full). c.get.ensures.never_full (c.in-Err.is ∙ ap Err e) in
    let large = subst OnlyLarge c.in-Err.is c.get.ensures.too_large in
    let named = λ (tells : IsTrue g.S.Site.tells). subst (NamesLength (g.S.Site.world c.self.inside.ground.site).tree c.args.path.now) c.in-Err.is (c.get.ensures.length tells) in
    let counts = subst (CountsFaults (g.S.Site.faults c.self.inside.ground.site) (g.S.Site.faults c.get.new.self.site) None) c.in-Err.is c.get.ensures.cause in
    let told = fault_after g.S.Site g.R.Runner _ _ _ _ _ _ _ c.self.invariant.0 c.self.invariant.1 c.self.view_is c.get.new.self c.get.ensures.reads site_laws.earlier c.get.ensures.cause.later c.args.seat c.args.text.now c.args.path.now c.requires.asks_for fault other large named counts in
    let fails = subst (λ (b : BoardState _). Asks g.S.Site c.args.seat c.args.text.now c.args.self.now (Err fault) b) (sym c.fail.ensures.adds) told in
    record { asks = subst (λ (f : BoardFault). Asks g.S.Site c.args.seat c.args.text.now c.args.self.now (Err f) c.fail.new.self) (sym c.fail.ensures.same) fails }
