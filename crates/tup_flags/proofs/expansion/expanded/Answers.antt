use Rattle.std.proofs.Common.{◌≡◌, [], ◌∷◌, Err, refl, sym, ◌∙◌, append-nil, string_bytes, rules, arith}
use Rattle.std.proofs.lemmas.Str.Pattern.{split_parts}
use Rattle.tup_flags.proofs.Turns.{front-in, front-long, handed-on, whole-text}
use Rattle.tup_flags.proofs.expansion.expanded.Goals as goal

pub marks-init : goal.marks-init
marks-init c = (
  rw (c.new-answer.ensures.pieces, c.new-answer.ensures.text, c.new-answer.ensures.room) refl,
  search rules,
)

pub returns-in_err-add_text : goal.returns-in_err-add_text
returns-in_err-add_text c =
    let l = c.marks in
    let cut = rw c.in-Some.is at (split_parts 37 l.rest.now c.split_once.result c.split_once.ensures.cases (omega arith)) in
    let is : c.from_residual.result ≡ Err c.in_err-add_text.field-0.0 = grind arith in
    handed-on c.from_residual.result _ _ c.in_err-add_text.field-0.0 is l.invariant.0
    (front-long c.args.parts.now l.answer.pieces (string_bytes l.answer.text) c.in-Some.front.now (37 ∷ c.in-Some.behind.now) l.rest.now l.answer.room _ cut.0 cut.1 c.in_err-add_text.ensures.refused)

pub returns-in_err-rest : goal.returns-in_err-rest
returns-in_err-rest c =
    let l = c.marks in
    let cut = rw c.in-Some.is at (split_parts 37 l.rest.now c.split_once.result c.split_once.ensures.cases (omega arith)) in
    let is : c.from_residual-in_err-rest.result ≡ Err c.in_err-rest.field-0.0 = grind arith in
    let e = c.in_ok-add_text.ensures.grown in
    handed-on c.from_residual-in_err-rest.result _ _ c.in_err-rest.field-0.0 is
    (l.invariant.0 ∙ front-in c.args.parts.now _ _ _ _ c.in-Some.front.now (37 ∷ c.in-Some.behind.now) l.rest.now _ _ cut.0 cut.1 e.pieces e.text e.room)
    c.in_err-rest.ensures.err

pub marks-preserved : goal.marks-preserved
marks-preserved c =
    let l = c.marks in
    let cut = rw c.in-Some.is at (split_parts 37 l.rest.now c.split_once.result c.split_once.ensures.cases (omega arith)) in
    let e = c.in_ok-add_text.ensures.grown in (
      l.invariant.0 ∙ front-in c.args.parts.now _ _ _ _ c.in-Some.front.now (37 ∷ c.in-Some.behind.now) l.rest.now _ _ cut.0 cut.1 e.pieces e.text e.room ∙ c.in_ok-rest.ensures.ok,
      search rules,
    )

pub returns-in_err-add_text-2 : goal.returns-in_err-add_text-2
returns-in_err-add_text-2 c =
    let l = c.marks in
    let none = rw c.in_default.is at (split_parts 37 l.rest.now c.split_once.result c.split_once.ensures.cases (omega arith)) in
    let is : c.from_residual-in_err-add_text-2.result ≡ Err c.in_err-add_text-2.field-0.0 = grind arith in
    handed-on c.from_residual-in_err-add_text-2.result _ _ c.in_err-add_text-2.field-0.0 is l.invariant.0
    (front-long c.args.parts.now l.answer.pieces (string_bytes l.answer.text) l.rest.now [] l.rest.now l.answer.room _ (sym (append-nil l.rest.now)) none c.in_err-add_text-2.ensures.refused)

pub returns : goal.returns
returns c =
    let l = c.marks in
    let none = rw c.in_default.is at (split_parts 37 l.rest.now c.split_once.result c.split_once.ensures.cases (omega arith)) in
    let e = c.in_ok-add_text-2.ensures.grown in
    let whole = l.invariant.0 ∙ front-in c.args.parts.now _ _ _ _ l.rest.now [] l.rest.now _ _ (sym (append-nil l.rest.now)) none e.pieces e.text e.room in
    whole-text c.finish.result _ c.add_text-2.new.self.pieces (string_bytes c.add_text-2.new.self.text) c.add_text-2.new.self.room whole c.finish.ensures.pieces c.finish.ensures.refused
