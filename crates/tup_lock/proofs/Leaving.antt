-- What is known of the entries of a seat that left.
use Rattle.std.proofs.Common.{◌≡◌, ℕ, List, [], ◌++◌, Some, None, ap, ◌∙◌, sym, subst}
use Rattle.std.specs.Prelude.{Contains, IsTrue}
use Rattle.tup_path.specs.Name.{Content}
use Rattle.tup_site.specs.Known.{Keeps}
use Rattle.tup_site.specs.declared.site.Site.{Ghosts as Site}
use Rattle.tup_runner.specs.declared.runner.Runner.{Ghosts as Runner}
use Rattle.tup_core.specs.Honest.{EndsHonestly}
use Rattle.tup_core.specs.declared.event.CoreEvent.{CoreEvent}
use Rattle.tup_core.specs.declared.plan.Plan.{Plan}
use Rattle.tup_board.specs.Board.{BoardState}
use Rattle.tup_board.specs.Entries.{WasDeniedBy, entries_at, runs_after}
use Rattle.tup_board.proofs.Known.{ends_more}
use Rattle.tup_lock.specs.Boards.{entries_by}
use Rattle.tup_lock.specs.declared.logged.Logged.{Ghosts as Log}
use Rattle.tup_lock.specs.declared.seat.Seat.{Seat}

module _ {S : Type 0} {log : Log (BoardState S) CoreEvent} where
  -- the seat has this number and left the board so
  pub left_entries : (number : ℕ) (new : BoardState S) (after : Seat (BoardState S) CoreEvent log) → after.number ≡ number → after.last.value ≡ new → entries_by after ≡ entries_at number new.history
  left_entries number new after n v = λ i. entries_at (n i) (v i).history

  -- what was said of the entries found is said of those that the seat had
  pub adds_after : (number : ℕ) (found : BoardState S) (was : Seat (BoardState S) CoreEvent log) (new : BoardState S) (after : Seat (BoardState S) CoreEvent log) → after.number ≡ number → after.last.value ≡ new
      → entries_at number found.history ≡ entries_at number was.last.value.history → (P : List CoreEvent → List CoreEvent → Type 0)
      → ((added : List CoreEvent) × (entries_at number new.history ≡ entries_at number found.history ++ added) × P (entries_at number found.history) added)
      → (added : List CoreEvent) × (entries_by after ≡ entries_at number was.last.value.history ++ added) × P (entries_at number was.last.value.history) added
  adds_after number found was new after n v same P it = (
    it.0,
    left_entries number new after n v ∙ it.1 ∙ ap (λ l. l ++ it.0) same,
    subst (λ l. P l it.0) same it.2,
  )

-- what a runner meant by the contents that a seat knew, it means by those that are known now
pub denied_there : {S R : Type 0} (site : Site S) (runner : Runner R) (number : ℕ) (plan : Plan) (last found : BoardState S) → entries_at number found.history ≡ entries_at number last.history
    → (Keeps (site.known last.site) (site.known found.site) → (content : Content) → Contains (site.known last.site) content → Contains (site.known found.site) content)
    → (IsTrue site.tells → Keeps (site.known last.site) (site.known found.site))
    → ((was : WasDeniedBy plan (entries_at number last.history)) → IsTrue site.tells → IsTrue runner.tells → EndsHonestly runner.next (site.known last.site) was.rule was.running (Some (was.text, was.verdict)) was.verdict [])
    → (was : WasDeniedBy plan (entries_at number found.history)) → IsTrue site.tells → IsTrue runner.tells → EndsHonestly runner.next (site.known found.site) was.rule was.running (Some (was.text, was.verdict)) was.verdict []
denied_there site runner number plan last found same all keeps means was tells tells' =
    ends_more (site.known last.site) (site.known found.site) (all (keeps tells)) runner.next was.rule was.running (Some (was.text, was.verdict)) was.verdict []
    (means (record { running = was.running; rule = was.rule; text = was.text; verdict = was.verdict; runs = ap (runs_after None) (sym same) ∙ was.runs; placed = was.placed; denied = was.denied }) tells tells')
