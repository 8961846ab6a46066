use Rattle.std.proofs.Common.{◌≡◌, cond, ◌+◌, ◌-◌, ◌++◌, List, ℕ, [], ◌∷◌, Some, take, sym, ap, subst, ◌∙◌}
use Rattle.std.proofs.lemmas.List.{take_more}
use Rattle.std.specs.BTreeMap.{get, is_at}
use Rattle.std.specs.Map.{lookup}
use Rattle.tup_path.specs.Order.{by_bytes}
use Rattle.tup_table.specs.Compact.{size_known, size_left}
use Rattle.tup_table.specs.Entries.{key_of}
use Rattle.tup_table.specs.declared.change.Change.{Change}
use Rattle.tup_table.proofs.Sizes.{SizedTo, sized_first, sized_more, before_fits}
use Rattle.tup_table.proofs.size.size_after.Goals as goal

pub loop-change-init : goal.loop-change-init
loop-change-init c = record {
  sizes = sized_first c.args.entries.now (λ q. get by_bytes c.new-changed.result q) c.size-size.result (λ q. ap (lookup (is_at (by_bytes q))) c.new-changed.ensures.empty) c.size-size.ensures.0;
  small = c.size-size.ensures.1;
}

pub overflow_sub-rest : goal.overflow_sub-rest
overflow_sub-rest c =
    let es = c.args.entries.now in
    let known = λ (q : List ℕ). get by_bytes c.loop-change.changed q in
    let before : c.size_before-before.result ≡ size_known es (known (key_of c.change-item.result)) (key_of c.change-item.result) = c.size_before-before.ensures ∙ ap (λ (k : List ℕ). size_known es (known k) k) c.key_of-key.ensures in
    before_fits es c.keys_ascend.ensures (take c.loop-change.change-index c.args.changes.now) known c.loop-change.size c.loop-change.invariant.sizes c.change-item.result c.size_before-before.result before

pub loop-change-preserved : goal.loop-change-preserved
loop-change-preserved c =
    let es = c.args.entries.now in
    let changes = c.args.changes.now in
    let i = c.loop-change.change-index in
    let change = c.change-item.result in
    let known = λ (q : List ℕ). get by_bytes c.loop-change.changed q in
    let later = λ (q : List ℕ). get by_bytes c.note_size.new.changed q in
    let before : c.size_before-before.result ≡ size_known es (known (key_of change)) (key_of change) = c.size_before-before.ensures ∙ ap (λ (k : List ℕ). size_known es (known k) k) c.key_of-key.ensures in
    let more : take (i + 1) changes ≡ take i changes ++ change ∷ [] = take_more changes i change c.loop-change-test.true ∙ ap (λ (one : Change). take i changes ++ one ∷ []) (sym c.change-item.is) in
    let kept : (q : List ℕ) → later q ≡ cond (is_at (by_bytes (key_of change)) q) (Some (size_left change)) (known q) = λ q.
    c.in_ok-note_size.ensures.ok q ∙ ap (λ (k : List ℕ). cond (is_at (by_bytes k) q) (Some c.change_size-after.result) (known q)) c.key_of-key.ensures
    ∙ ap (λ (n : ℕ). cond (is_at (by_bytes (key_of change)) q) (Some n) (known q)) c.change_size-after.ensures in
    record {
      sizes =
          subst (λ (done : List Change). SizedTo es done later c.in_ok-size.size) (sym more)
          (sized_more es c.keys_ascend.ensures (take i changes) known c.loop-change.size c.loop-change.invariant.sizes change c.size_before-before.result before later kept c.in_ok-size.size (c.in_ok-size.ensures.0 ∙ ap (λ (n : ℕ). c.loop-change.size - c.size_before-before.result + n) c.change_size-after.ensures));
      small = c.in_ok-size.ensures.1;
    }
