use Rattle.tup_mini.specs.Files.{reads, reads_own}
use Rattle.tup_mini.specs.Part.{ask_for}
use Rattle.tup_mini.specs.Through.{kept_of}
use Rattle.tup_mini.proofs.Following.{follows_same, at_once}
use Rattle.tup_mini.proofs.Looping.{reads-some, reads-none}
use Rattle.tup_mini.proofs.kept.Kept.read.Goals as goal

pub returns-in-Some : goal.returns-in-Some
returns-in-Some g c =
    let kept = kept_of c.args.self.now in
    follows_same g.V.View.came g.V.View.same g.V.View.refusal c.args.view.now c.args.view.now (reads c.args.text.now kept) (reads_own c.in-Some.content kept) (kept_of c.read_own.new.self) c.read_own.result
    (reads-some kept c.args.text.now c.in-Some.content c.in_ok-content.field-0 c.in_ok-content.ensures c.in-Some.is)
    (at_once g.V.View.came g.V.View.same g.V.View.refusal g.met.V.View.stays g.met.V.View.same_itself c.args.view.now (reads_own c.in-Some.content kept) (kept_of c.read_own.new.self) c.read_own.result c.requires c.read_own.ensures)

pub returns-in-None : goal.returns-in-None
returns-in-None g c =
    let kept = kept_of c.args.self.now in
    follows_same g.V.View.came g.V.View.same g.V.View.refusal c.args.view.now c.ask.new.view (reads c.args.text.now kept) (ask_for c.args.text.now kept) (kept_of c.ask.new.self) c.ask.result
    (reads-none kept c.args.text.now c.in_ok-content.field-0 c.in_ok-content.ensures c.in-None.is) c.ask.ensures
