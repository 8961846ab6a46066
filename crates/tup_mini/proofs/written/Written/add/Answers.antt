use Rattle.std.proofs.Common.{ℕ, Some, ◌++◌, ◌∷◌, [], cond, length, sym, ap, ◌∙◌, subst}
use Rattle.std.specs.BTreeMap.{get as entry_of, is_at}
use Rattle.tup_path.specs.Order.{by_names}
use Rattle.tup_mini.specs.Kept.{Writes}
use Rattle.tup_mini.specs.Places.{HasPlaces}
use Rattle.tup_mini.proofs.Writing.{placed-fresh, push_fits, with-fresh}
use Rattle.tup_mini.proofs.written.Written.add.Goals as goal

pub invariant_of-self-2 : goal.invariant_of-self-2
invariant_of-self-2 c =
    let old = c.args.self.now in
    let at = c.len.ensures ∙ c.reserve.new.self.ok.0 ∙ ap (λ (w : Writes). length w) c.reserve.ensures.items in
    let more = placed-fresh old.dir old.writes.items old.places c.insert.new.self c.args.text c.args.path c.args.content c.requires.named old.placed c.requires.fresh
    (λ q. c.in_ok-insert.ensures.updates.0 q ∙ ap (λ (n : ℕ). cond (is_at (by_names c.args.path) q) (Some n) (entry_of by_names old.places q)) at) in
    let fits = push_fits c.push.result _ _ c.push.ensures.full c.in_ok-reserve.ensures.ok in
    let items = c.push.ensures.items ∙ ap (λ b. cond b (c.reserve.new.self.items ++ (c.args.text, c.args.content) ∷ []) c.reserve.new.self.items) fits
    ∙ ap (λ (w : Writes). w ++ (c.args.text, c.args.content) ∷ []) c.reserve.ensures.items in
    record { placed = subst (λ (w : Writes). HasPlaces old.dir w c.insert.new.self) (sym items) more }

pub returns-clause-written : goal.returns-clause-written
returns-clause-written c =
    let old = c.args.self.now in
    c.in_ok-push.ensures.items ∙ ap (λ (w : Writes). w ++ (c.args.text, c.args.content) ∷ []) c.reserve.ensures.items
    ∙ with-fresh old.dir old.writes.items old.places c.args.text c.args.path c.args.content c.requires.named old.placed c.requires.fresh
