use Rattle.std.proofs.Common.{List, Option, OnOk, sym, subst}
use Rattle.tup_path.specs.Name.{Content}
use Rattle.tup_site.specs.Known.{IsKnown}
use Rattle.tup_site.specs.Held.{IsHeld}
use Rattle.tup_site.specs.Choice.{with_content}
use Rattle.tup_site.proofs.Among.{knows_newest, knows_more}
use Rattle.tup_site.proofs.crash.take_up.Goals as goal

pub returns-in-Some-clause-held : goal.returns-in-Some-clause-held
returns-in-Some-clause-held c =
    subst (λ (o : Option Content). OnOk c.take_up.result ((contents : List Content) → IsHeld c.args.known.now.contents.entries contents → IsHeld c.take_up.new.self.contents.entries (with_content contents o)))
    (sym c.in-Some.is) c.take_up.ensures.held

pub returns-in-Some-clause-same_stamp : goal.returns-in-Some-clause-same_stamp
returns-in-Some-clause-same_stamp c e contents held known =
    let content = c.in-Some.content in
    let known_so = subst (λ o. IsKnown (with_content contents o)) c.in-Some.is known in
    c.take_up.ensures.same_stamp e contents held (λ other k same. known_so other content (knows_more content contents other k) (knows_newest content contents) same)
