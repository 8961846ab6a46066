-- What an opening leaves is among what it may write.
use Rattle.std.proofs.Common.{◌≡◌, ℕ, List, [], ◌∷◌, ◌++◌, drop, append-nil, inl, inr, sym, ap, ◌∙◌, arith}
use Rattle.tup_table.specs.Compact.{compacted, compact_area}
use Rattle.tup_table.specs.Entries.{entries_of}
use Rattle.tup_table.specs.Images.{IsEndWritten, rested}
use Rattle.tup_table.specs.Reading.{opened_of}
use Rattle.tup_table.specs.Store.{first_bytes, blocks, IsLow, IsHigh}
use Rattle.tup_table.specs.declared.change.Change.{Change}
use Rattle.tup_table.specs.declared.opened.Opened.{Opened}
use Rattle.tup_table.proofs.Compact.{compacted_again}
use Rattle.tup_table.proofs.Ends.{closed_written}
use Rattle.tup_table.proofs.Finish.{with_switch, still_head, switch_is, start_stays, at_switch, start_bytes}
use Rattle.tup_table.proofs.Keys.{commits_ascending}
use Rattle.tup_table.proofs.Settling.{rested_low, rested_high}
use Rattle.tup_ledger.specs.Begin.{IsRested}

module _ (before after : List ℕ) (opened : Opened) (there : after ≡ rested before opened) where
  -- with a closed gate at its end
  low_written : (commits : List (List Change)) → IsLow before commits → opened ≡ opened_of commits → IsEndWritten before after
  low_written commits low is = closed_written before after commits low opened.gate (ap (λ (o : Opened). o.gate) is) (there ∙ rested_low before commits low opened)

  -- or compacted
  high_written : (commits : List (List Change)) → IsHigh before commits → opened ≡ opened_of (compacted (entries_of commits)) → IsEndWritten before after
  high_written commits high is =
      let old = high.head in
      let is_head = high.parts.is_head in
      let eight = drop 9 old in
      let area = compact_area (entries_of commits) in
      let same : compact_area opened.entries ≡ area =
      ap (λ (o : Opened). compact_area o.entries) is ∙ ap (λ (cs : List (List Change)). blocks cs ++ 0 ∷ []) (compacted_again (entries_of commits) (commits_ascending commits)) in
      inr (record {
        commits = commits;
        high = high;
        head = with_switch old is_head 0;
        low = area;
        parts = record {
          is_head = still_head old is_head 0;
          whole =
              there ∙ rested_high before commits high opened
              ∙ ap (λ (t : List ℕ). first_bytes ++ 0 ∷ (t ++ compact_area opened.entries)) (start_bytes old high.low before is_head high.parts.whole)
              ∙ ap (λ (t : List ℕ). first_bytes ++ 0 ∷ (eight ++ t)) same
              ∙ ap (λ (t : List ℕ). t ++ 0 ∷ (eight ++ area)) (sym is_head.first)
              ∙ sym (at_switch old is_head 0 area);
        };
        start = start_stays old is_head 0;
        area = inr (λ e. omega (arith, switch_is old is_head 0, e), [], sym (append-nil area));
      })

pub rested_written : (before after : List ℕ) → IsRested before after → IsEndWritten before after
rested_written before after (opened, (commits, inl low, is), there) = low_written before after opened there commits low is
rested_written before after (opened, (commits, inr (high_commits, high, compact), is), there) = high_written before after opened there high_commits high (is ∙ ap opened_of compact)
