use Rattle.std.proofs.Common.{◌++◌, ap, ◌∙◌}
use Rattle.tup_path.specs.Tree.{Tree}
use Rattle.tup_site.specs.World.{World}
use Rattle.tup_site.specs.Crash.{FileStep}
use Rattle.tup_site.specs.Memory.{known_in, changes_of, added, removal, tree_in}
use Rattle.tup_site.proofs.Changes.{gone_elsewhere}
use Rattle.tup_site.proofs.Going.{kept_same, noted_then, remove_goes, remove_keeps, with_any_step}
use Rattle.tup_site.proofs.Counted.{counted_quiet}
use Rattle.tup_site.proofs.memory_calls.MemSiteSite.remove.Goals as goal

pub returns-clause-crash : goal.returns-clause-crash
returns-clause-crash c =
    let tree = ap (λ (w : World). w.tree) c.in_ok-begin.ensures.same in
    let noted = c.remove_noted.ensures.noted ∙ ap (λ (t : Tree). changes_of c.begin.new.self ++ added c.remove_noted.result (removal t c.args.path.now)) tree in
    remove_goes c.args.self.now c.remove_noted.new.self (c.remove_noted.ensures.beside.first ∙ c.in_ok-begin.ensures.counted.first) c.args.path.now c.remove_noted.result
    (noted_then c.args.self.now c.begin.new.self c.remove_noted.new.self (added c.remove_noted.result (removal (tree_in c.args.self.now) c.args.path.now)) c.in_ok-begin.ensures.noted noted)

pub returns-clause-known : goal.returns-clause-known
returns-clause-known c =
    let tree = ap (λ (w : World). w.tree) c.in_ok-begin.ensures.same in
    let noted = c.remove_noted.ensures.noted ∙ ap (λ (t : Tree). changes_of c.begin.new.self ++ added c.remove_noted.result (removal t c.args.path.now)) tree in
    remove_keeps c.args.self.now c.remove_noted.new.self (c.remove_noted.ensures.beside.first ∙ c.in_ok-begin.ensures.counted.first) c.args.path.now c.remove_noted.result
    (noted_then c.args.self.now c.begin.new.self c.remove_noted.new.self (added c.remove_noted.result (removal (tree_in c.args.self.now) c.args.path.now)) c.in_ok-begin.ensures.noted noted)

pub returns-clause-noted : goal.returns-clause-noted
returns-clause-noted c =
    let tree = ap (λ (w : World). w.tree) c.in_ok-begin.ensures.same in
    let noted = c.remove_noted.ensures.noted ∙ ap (λ (t : Tree). changes_of c.begin.new.self ++ added c.remove_noted.result (removal t c.args.path.now)) tree in
    noted_then c.args.self.now c.begin.new.self c.remove_noted.new.self (added c.remove_noted.result (removal (tree_in c.args.self.now) c.args.path.now)) c.in_ok-begin.ensures.noted noted

pub returns-clause-others : goal.returns-clause-others
returns-clause-others c =
    gone_elsewhere c.remove_noted.result (tree_in c.args.self.now) (tree_in c.begin.new.self) (tree_in c.remove_noted.new.self) c.args.path.now (ap (λ (w : World). w.tree) c.in_ok-begin.ensures.same) c.remove_noted.ensures.removed c.remove_noted.ensures.unchanged

pub returns-in_err-begin-clause-crash : goal.returns-in_err-begin-clause-crash
returns-in_err-begin-clause-crash c = with_any_step c.args.self.now c.begin.new.self (FileStep c.args.path.now (known_in c.begin.new.self)) c.begin.ensures.crash

pub returns-in_err-begin-clause-known : goal.returns-in_err-begin-clause-known
returns-in_err-begin-clause-known c = kept_same c.args.self.now c.begin.new.self c.begin.ensures.known

pub returns-clause-counted : goal.returns-clause-counted
returns-clause-counted c = counted_quiet c.args.self.now c.begin.new.self c.remove_noted.new.self _ c.in_ok-begin.field-0 c.remove_noted.result c.in_ok-begin.ensures.counted c.remove_noted.ensures.beside c.remove_noted.ensures.memory
