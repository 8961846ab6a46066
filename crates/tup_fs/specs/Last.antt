-- What a site over real files answers, and what it keeps of its failures. Own.
use Rattle.std.specs.Prelude.{◌≡◌, ℕ, ◌+◌, ◌≤◌, Option, None, Some, Result, Ok, Err}
use Rattle.tup_disk.specs.declared.failure.Failure.{Failure}
use Rattle.tup_disk.specs.declared.failure.Refused.{Refused}
use Rattle.tup_disk.specs.declared.failure.Refused.TheVariants.{Memory, Failed}
use Rattle.tup_site.specs.Cause.{CountsFaults, NeverTooLarge}
use Rattle.tup_site.specs.declared.fault.SiteFailed.{SiteFailed}
use Rattle.tup_site.specs.declared.fault.SiteFailed.TheVariants as site

-- each fault is counted, once, and nothing else is
abbrev pub CountsOnce : {T : Type 0} → ℕ → ℕ → Result T SiteFailed → Type 0
CountsOnce before after answer = CountsFaults before after answer × (after ≤ before + 1)

-- the same of a call that reads no file, and so speaks of no file's length
abbrev pub CountsPlainly : {T : Type 0} → ℕ → ℕ → Result T SiteFailed → Type 0
CountsPlainly before after answer = CountsOnce before after answer × NeverTooLarge answer

-- a refusal as the site tells it: each failure of the system is a fault
abbrev pub IsRefusalOf : {T : Type 0} → Result T Refused → SiteFailed → Type 0
IsRefusalOf (Ok value) failed = ⊥
IsRefusalOf (Err Memory) failed = failed ≡ site.Memory
IsRefusalOf (Err (Failed failure)) failed = failed ≡ site.Fault

-- the last failure after an answer: the one that it names, or else the one before
abbrev pub last_after : {T : Type 0} → Result T Refused → Option Failure → Option Failure
last_after (Ok value) before = before
last_after (Err Memory) before = before
last_after (Err (Failed failure)) before = Some failure

-- the same after the answer of a sync, which may be refused for what was lost before: the one before, or else the one that it
-- names
abbrev pub last_after_sync : {T : Type 0} → Result T Refused → Option Failure → Option Failure
last_after_sync answer None = last_after answer None
last_after_sync answer (Some before) = Some before
