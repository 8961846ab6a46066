use Rattle.std.proofs.Common.{Ok, Err, false, inr, string_bytes, refl, sym, ap, ◌∙◌, arith, rules}
use Rattle.std.proofs.lemmas.Str.Pattern.{split_parts}
use Rattle.tup_vars.specs.Expand.{scope}
use Rattle.tup_vars.proofs.Joined.{no_bracket, IsCut, turn-ok, turn-err, end-ok, end-err}
use Rattle.tup_vars.proofs.vars.Vars.expand.Goals as goal

pub returns-in_err-add_closed-clause-expanded : goal.returns-in_err-add_closed-clause-expanded
returns-in_err-add_closed-clause-expanded g c = λ tells.
    let l = c.parts in
    let cut = rw c.in-Some.is at (split_parts 41 l.rest.now c.split_once.result c.split_once.ensures.cases (omega arith)) in
    let is_cut : IsCut l.rest.now c.in-Some.part.now c.in-Some.more.now = record { whole = cut.0; none = no_bracket c.in-Some.part.now cut.1 } in
    turn-err c.args.self.now c.args.cwd.now _ _ (l.invariant.same tells) _ (string_bytes l.expanded) l.rest.now (l.invariant.so_far tells) c.in-Some.part.now c.in-Some.more.now is_cut
    (Err c.in_err-add_closed.field-0.0) c.in_err-add_closed.field-0.0 c.from_residual.result refl (grind arith) (c.in_err-add_closed.ensures.added tells)

pub parts-preserved : goal.parts-preserved
parts-preserved g c =
    let l = c.parts in
    let cut = rw c.in-Some.is at (split_parts 41 l.rest.now c.split_once.result c.split_once.ensures.cases (omega arith)) in
    let is_cut : IsCut l.rest.now c.in-Some.part.now c.in-Some.more.now = record { whole = cut.0; none = no_bracket c.in-Some.part.now cut.1 } in
    record {
      text = search rules;
      running = sym {a = false} c.in_ok-add_closed.ensures.stopped;
      same = λ tells. c.in_ok-add_closed.ensures.same tells ∙ l.invariant.same tells;
      so_far = λ tells. turn-ok c.args.self.now c.args.cwd.now _ _ (l.invariant.same tells) _ (string_bytes l.expanded) l.rest.now (l.invariant.so_far tells) c.in-Some.part.now c.in-Some.more.now is_cut
          c.in_ok-add_closed.field-0 (string_bytes c.add_closed.new.expanded) (c.in_ok-add_closed.ensures.added tells);
    }

pub returns-in_err-add_last-clause-expanded : goal.returns-in_err-add_last-clause-expanded
returns-in_err-add_last-clause-expanded g c = λ tells.
    let l = c.parts in
    let none = rw c.in_default.is at (split_parts 41 l.rest.now c.split_once.result c.split_once.ensures.cases (omega arith)) in
    end-err c.args.self.now c.args.cwd.now _ _ (l.invariant.same tells) _ (string_bytes l.expanded) l.rest.now (l.invariant.so_far tells) (no_bracket l.rest.now none)
    (Err c.in_err-add_last.field-0.0) c.in_err-add_last.field-0.0 c.from_residual-in_err-add_last.result refl (grind arith) (c.in_err-add_last.ensures.added (scope c.args.self.now c.args.cwd.now (g.C.Lookup.answers c.args.config.now)))

pub returns-clause-expanded : goal.returns-clause-expanded
returns-clause-expanded g c = λ tells.
    let l = c.parts in
    let none = rw c.in_default.is at (split_parts 41 l.rest.now c.split_once.result c.split_once.ensures.cases (omega arith)) in
    inr (ap Ok c.from_string.ensures
    ∙ end-ok c.args.self.now c.args.cwd.now _ _ (l.invariant.same tells) _ (string_bytes l.expanded) l.rest.now (l.invariant.so_far tells) (no_bracket l.rest.now none)
    c.in_ok-add_last.field-0 (string_bytes c.add_last.new.expanded) refl (c.in_ok-add_last.ensures.added (scope c.args.self.now c.args.cwd.now (g.C.Lookup.answers c.args.config.now))))
