-- What a command asks over some answers, and how it ends then. True records, reports and the core's honest runs are
-- said by these words, each of what a command does: `next dir text` of a runner.
use Rattle.std.specs.Prelude.{◌≡◌, ℕ, List, Some, take, slice_get}
use Rattle.tup_runner.specs.Next.{Asks}
use Rattle.tup_runner.specs.declared.step.Answer.{Answer}
use Rattle.tup_runner.specs.declared.step.Ended.{Ended}
use Rattle.tup_runner.specs.declared.step.Step.{Step}
use Rattle.tup_runner.specs.declared.step.Step.TheVariants.{Ask, End}

-- over these answers a command asks just these texts in their order
pub record AsksJust (does : Asks → Step) (asks : Asks) : Type 0 where
  pub each : (at : ℕ) (ask : List ℕ × Answer) → slice_get asks at ≡ Some ask → does (take at asks) ≡ Ask ask.0

-- and then asks this text
pub record AsksAfter (does : Asks → Step) (asks : Asks) (last : List ℕ) : Type 0 where
  pub before : AsksJust does asks
  pub asks_it : does asks ≡ Ask last

-- or then ends so
pub record EndsAfter (does : Asks → Step) (asks : Asks) (ended : Ended) : Type 0 where
  pub before : AsksJust does asks
  pub ends : does asks ≡ End ended
