use Rattle.std.proofs.Common.{◌≡◌, ◌+◌, ℕ, List, Option, Some, drop, refl, sym, subst, ◌∙◌}
use Rattle.std.specs.List.{slice_get}
use Rattle.std.proofs.lemmas.List.{drop_all}
use Rattle.tup_rule.specs.declared.rule.Rule.{Rule}
use Rattle.tup_core.specs.declared.event.CoreEvent.{CoreEvent}
use Rattle.tup_core.specs.declared.event.CoreEvent.TheVariants.{Claim, Finish}
use Rattle.tup_core.specs.declared.plan.Plan.{Plan}
use Rattle.tup_core.specs.Run.{end_of}
use Rattle.tup_core.specs.Step.{opening}
use Rattle.tup_update.specs.Run.{IsBadRule}
use Rattle.tup_update.specs.declared.ended.BadRule.{BadRule}
use Rattle.tup_update.proofs.Claimed.{claimed_after}
use Rattle.tup_update.proofs.FirstBad.{AllRead, IsBadOne, lower_bad, next_read, read_all, reads_claim, reads_finish, reads_first, reads_other}
use Rattle.tup_update.proofs.ended.first_bad.Goals.{in-Claim, in-Finish, in_default}
use Rattle.tup_update.proofs.ended.first_bad.Goals as goal

pub loop-event-init : goal.loop-event-init
loop-event-init c = ((λ files run. reads_first c.args.plan.now files c.args.history.now run), tt)

-- the same of what is kept by now
kept_so : (plan : Plan) (history : List CoreEvent) (k : ℕ) (claimed now : List (Option ℕ)) (first last : Option BadRule) → now ≡ claimed → last ≡ first → AllRead plan history k claimed first × IsBadOne first
    → AllRead plan history k now last × IsBadOne last
kept_so plan history k claimed now first last same is read =
    subst (λ (n : List (Option ℕ)). AllRead plan history k n last × IsBadOne last) (sym same) (subst (λ (o : Option BadRule). AllRead plan history k claimed o × IsBadOne o) (sym is) read)

pub loop-event-preserved : goal.loop-event-preserved
loop-event-preserved c =
    let plan = c.args.plan.now in
    let history = c.args.history.now in
    let k = c.loop-event.event-index in
    let claimed = c.loop-event.claimed in
    let first = c.loop-event.first in
    let left = drop (k + 1) history in
    elim c.match-event.branch [
      | in-Claim w ↦
          let it = Claim w.in-Claim.seat w.in-Claim.rule in
          kept_so plan history (k + 1) (claimed_after claimed it) c.match-event.claimed first c.match-event.first (w.claimed-is ∙ w.claim_at.ensures) w.first-is (
            (λ files run. reads_claim plan (end_of plan (opening plan files) history) left claimed first w.in-Claim.seat w.in-Claim.rule
                (next_read plan history k c.loop-event-test.true claimed first c.loop-event.invariant.0 c.event-item.result it c.event-item.is w.in-Claim.is files run)),
            c.loop-event.invariant.1,
          )
      | in-Finish w ↦
          let seat = w.in-Finish.seat in
          let verdict = w.in-Finish.verdict in
          let it = Finish seat verdict w.in-Finish.writes in
          let next = w.lower-first.result in
          let bad = subst (λ (rules : List Rule). (at : ℕ) (rule : Rule) → w.claimed_at.result ≡ Some at → slice_get rules at ≡ Some rule → IsBadRule at rule verdict w.bad_at.result) c.as_slice-rules.ensures in
          kept_so plan history (k + 1) claimed c.match-event.claimed next c.match-event.first w.claimed-is w.first-is (
            (λ files run. reads_finish plan (end_of plan (opening plan files) history) left claimed first seat verdict w.in-Finish.writes
                (next_read plan history k c.loop-event-test.true claimed first c.loop-event.invariant.0 c.event-item.result it c.event-item.is w.in-Finish.is files run)
                w.claimed_at.result w.claimed_at.ensures w.bad_at.result next w.bad_at.ensures.good (λ differ. bad (w.bad_at.ensures.bad differ)) w.lower-first.ensures),
            lower_bad first w.bad_at.result next w.lower-first.ensures c.loop-event.invariant.1 w.bad_at.ensures.is_bad,
          )
      | in_default w ↦
          let event = c.event-item.result in
          kept_so plan history (k + 1) claimed c.match-event.claimed first c.match-event.first w.claimed-is w.first-is (
            (λ files run. reads_other plan (end_of plan (opening plan files) history) left claimed first event w.in_default.not-Claim w.in_default.not-Finish
                (next_read plan history k c.loop-event-test.true claimed first c.loop-event.invariant.0 event event c.event-item.is refl files run)),
            c.loop-event.invariant.1,
          )
    ]

pub returns-clause-lowest : goal.returns-clause-lowest
returns-clause-lowest c = λ files run.
    let plan = c.args.plan.now in
    let history = c.args.history.now in
    let k = c.loop-event.event-index in
    read_all plan (end_of plan (opening plan files) history) (drop k history) c.loop-event.claimed c.loop-event.first (drop_all k history c.loop-event-test.false) (c.loop-event.invariant.0 files run)
