use Rattle.std.proofs.Common.{◌≡◌, length, List, ℕ, refl, sym, ap, ◌∙◌, subst, arith}
use Rattle.std.proofs.lemmas.Bool.{eqb-true, eqb-false}
use Rattle.std.proofs.lemmas.List.{take_at}
use Rattle.std.specs.BTreeSet.{contains}
use Rattle.std.specs.Ordering.{nat_cmp}
use Rattle.tup_clean.specs.declared.queue.Queue.{Queue}
use Rattle.tup_clean.specs.Queue.{IsNoted}
use Rattle.tup_clean.proofs.Queueing.{filled_step, ready_in, ready_out}
use Rattle.tup_clean.proofs.queue.Queue.add.Goals as goal
use Rattle.tup_clean.proofs.queue.Queue.add.Goals.{then-is_empty+in_ok-insert, else-is_empty}

pub returns : goal.returns
returns c = λ rules count has here filled.
    let found = c.in_ok-producers.producers.items in
    let lists = c.note_reader.new.readers in
    let at = c.len-at.result in
    let place : c.len-at.result ≡ length c.args.self.now.waits.items = omega (arith, c.len-at.ensures, c.args.self.now.waits.ok.0) in
    let long : length c.note_reader.new.readers ≡ c.args.self.now.readers.len = omega arith in
    let size : c.len.result ≡ length c.in_ok-producers.producers.items = omega (arith, c.len.ensures, c.in_ok-producers.producers.ok.0) in
    let noted = subst (λ (l : List (List ℕ)). IsNoted c.len-at.result c.in_ok-producers.producers.items l c.note_reader.new.readers) c.deref_mut.ensures.value
    (subst (λ (l : List ℕ). IsNoted c.len-at.result l c.deref_mut.result.now c.note_reader.new.readers) c.deref.ensures.value c.in_ok-note_reader.ensures) in
    elim c.if-is_empty.branch [
      | then-is_empty+in_ok-insert w ↦
          let zero : c.in_ok-producers.producers.len ≡ 0 = eqb-true c.in_ok-producers.producers.len 0 (sym c.is_empty.ensures ∙ w.if-is_empty.true) in
          let none : length c.in_ok-producers.producers.items ≡ 0 = omega (arith, zero, c.in_ok-producers.producers.ok.0) in
          filled_step rules count c.args.self.now c.if-is_empty.self _ c.args.rule.now c.args.makers.now found lists at c.len.result has here filled c.in_ok-producers.ensures place noted
          (ap (λ (q : Queue). q.waits) w.self-is) (ap (λ (q : Queue). q.readers.items) w.self-is ∙ take_at lists _ _ long)
          (λ k. ap (λ (q : Queue). contains nat_cmp q.ready k) w.self-is ∙ ready_in at found c.args.self.now.ready w.insert.new.self none w.in_ok-insert.ensures.updates.0 k)
          c.in_ok-push.ensures.items size refl refl
      | else-is_empty w ↦
          let apart : c.in_ok-producers.producers.len ≡ 0 → ⊥ = eqb-false c.in_ok-producers.producers.len 0 (sym c.is_empty.ensures ∙ w.if-is_empty.false) in
          let some : length c.in_ok-producers.producers.items ≡ 0 → ⊥ = λ none. apart (omega (arith, none, c.in_ok-producers.producers.ok.0)) in
          filled_step rules count c.args.self.now c.if-is_empty.self _ c.args.rule.now c.args.makers.now found lists at c.len.result has here filled c.in_ok-producers.ensures place noted
          (ap (λ (q : Queue). q.waits) w.self-is) (ap (λ (q : Queue). q.readers.items) w.self-is ∙ take_at lists _ _ long)
          (λ k. ap (λ (q : Queue). contains nat_cmp q.ready k) w.self-is ∙ ready_out at found c.args.self.now.ready some k)
          c.in_ok-push.ensures.items size refl refl
    ]
