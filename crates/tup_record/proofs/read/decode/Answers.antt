use Rattle.std.proofs.Common.{subst}
use Rattle.tup_record.specs.Reading.{record_at, Gives}
use Rattle.tup_record.proofs.Laws.{only, short_key, short_value, trailing_key, trailing_value}
use Rattle.tup_record.proofs.read.decode.Goals as goal
use Rattle.tup_record.proofs.read.decode.Goals.{After-entry}

given : (c : After-entry) → Gives c.entry.result (record_at c.args.key.now c.args.value.now)
given c =
    subst (λ value. Gives c.entry.result (record_at c.args.key.now value)) c.as_slice-2.ensures (subst (λ key. Gives c.entry.result (record_at key c.as_slice-2.result.now)) c.as_slice.ensures c.entry.ensures.exact)

pub returns-clause-only : goal.returns-clause-only
returns-clause-only c = λ entry is. only c.args.key.now c.args.value.now c.entry.result (given c) entry is.0 is.1 is.2

pub returns-clause-short_key : goal.returns-clause-short_key
returns-clause-short_key c = λ entry fits more. short_key c.args.key.now c.args.value.now c.entry.result (given c) entry fits more.0 more.1 more.2

pub returns-clause-short_value : goal.returns-clause-short_value
returns-clause-short_value c = λ entry fits key more. short_value c.args.key.now c.args.value.now c.entry.result (given c) entry fits more.0 more.1 key more.2

pub returns-clause-trailing_key : goal.returns-clause-trailing_key
returns-clause-trailing_key c = λ entry fits more. trailing_key c.args.key.now c.args.value.now c.entry.result (given c) entry fits more.0 more.1 more.2

pub returns-clause-trailing_value : goal.returns-clause-trailing_value
returns-clause-trailing_value c = λ entry fits key more. trailing_value c.args.key.now c.args.value.now c.entry.result (given c) entry fits more.0 more.1 key more.2
