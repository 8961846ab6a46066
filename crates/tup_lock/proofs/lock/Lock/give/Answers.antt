use Rattle.std.proofs.Common.{rules, ℕ, [], ◌∷◌, Option, None, Some, ap, sym, ◌∙◌, subst}
use mathlib.Core.Option.{none}
use Rattle.atomic_table.specs.Table.{Allows, Me, step, rest}
use Rattle.tup_lock.specs.declared.view.View.{View}
use Rattle.tup_lock.specs.Held.{Held, gave, given}
use Rattle.tup_lock.proofs.Steps.{gives_it}
use Rattle.tup_lock.proofs.lock.Lock.give.Goals as goal

pub exchange-requires : goal.exchange-requires
exchange-requires g c = let e = ap (λ m. m.1) c.requires.holds.3 in (search rules, (None, e ∙ ap (λ l. (0, None) ∷ rest l) (sym e)))

pub store-requires : goal.store-requires
store-requires g c =
    let h = c.requires.holds in
    let start = c.args.self.now.table.shared.key.value in
    let seat = c.exchange.new.seat in (
      search rules,
      search rules,
      subst (λ (z : ℕ × Me (Option g.row.T.Denot) (View g.row.T.Denot)). Allows (Held g.T.Logged start) z.0 seat.id z.1 0 (λ _. 0) (λ _. gave (step z.0 0 0 0 none) z.1 0))
          (λ i. (sym c.args.self.now.sized.1 i, sym (c.exchange.ensures.3 ∙ ap (λ m. (m.0, (0, Some c.args.value) ∷ rest m.1)) h.3) i))
          (gives_it g.T.Logged start seat.id h.0 c.args.place.now.me.0.count h.1 h.2 c.args.value [] h.4),
    )

pub returns-clause-left : goal.returns-clause-left
returns-clause-left g c = λ number last is.
    let me = c.exchange.ensures.3 in
    c.store.ensures.2 number last c.args.value _ (ap (λ m. m.0.lasts) me ∙ is) (ap (λ m. m.1) me)
    ∙ (λ i. (given (ap (λ m. m.0) me i) number c.args.value, ap (λ m. rest m.1) c.requires.holds.3 i))
