use Rattle.std.proofs.Common.{◌≡◌, false, true, length, sym, ap, ◌∙◌, subst}
use Rattle.std.specs.List.Sorted.{IsStrictlySortedBy}
use Rattle.std.proofs.lemmas.Bool.{false≢true}
use Rattle.tup_path.specs.Order.{by_names}
use Rattle.tup_path.proofs.Maps.{no_entries}
use Rattle.tup_apart.specs.Place.{IsOver}
use Rattle.tup_apart.proofs.Behind.{keys_in_order}
use Rattle.tup_apart.proofs.Placing.{not_over, placed, turned}
use Rattle.tup_apart.proofs.place.has_place.Goals as goal
use Rattle.tup_apart.proofs.place.has_place.Goals.{then-depth-eq0-via-then-depth-eq0, then-depth-eq0-via-else-depth-eq0+then-is_over}

pub is_over-requires : goal.is_over-requires
is_over-requires c = subst (IsStrictlySortedBy by_names) (sym c.requires) (keys_in_order c.args.nodes.now.seen)

pub returns-then-depth-eq0 : goal.returns-then-depth-eq0
returns-then-depth-eq0 c =
    let path = c.args.path.now in (
      λ (wrong : false ≡ true). absurd (false≢true wrong),
      λ place. absurd (elim c.then-depth-eq0.branch [
        | then-depth-eq0-via-then-depth-eq0 w ↦ place.not_top (no_entries path (sym c.depth.ensures.depth ∙ w.if-depth-eq0.true))
        | then-depth-eq0-via-else-depth-eq0+then-is_over w ↦
            not_over c.args.nodes.now c.args.makers.now path place (subst (IsOver path) c.requires (w.is_over.ensures.0 w.if-is_over.true))
      ]),
    )

pub returns : goal.returns
returns c =
    let path = c.args.path.now in
    let depth = c.depth.ensures.depth in
    let deep = c.if-depth-eq0.false in
    turned c.in_ok-is_under_file.field-0 _ _ c.in_ok-is_under_file.ensures
    (placed c.args.nodes.now c.args.makers.now path
    (λ top. deep (depth ∙ ap length top))
    (λ over. false≢true (sym c.if-is_over.false ∙ c.is_over.ensures.1 (subst (IsOver path) (sym c.requires) over))))
    (λ place. place.none_above)
