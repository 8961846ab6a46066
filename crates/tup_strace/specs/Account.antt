-- The account of a command: what it asks for, each path once and none that it wrote itself before, what it was told of these, and
-- what it wrote, in the order of first writing.
use Rattle.std.specs.Prelude.{Bool, true, false, if◌then◌else◌, List, [], fold}
use Rattle.tup_path.specs.Name.{Names}
use Rattle.tup_path.specs.Order.{same_path}
use Rattle.tup_strace.specs.Once.{with_path, unless_among}
use Rattle.tup_strace.specs.declared.act.Answer.{Answer}
use Rattle.tup_strace.specs.declared.act.Answer.TheVariants.{Found, Missed, Unclear}
use Rattle.tup_strace.specs.declared.account.Account.{Account}
use Rattle.tup_strace.specs.declared.account.Step.{Step}
use Rattle.tup_strace.specs.declared.account.Step.TheVariants.{Ask, Write, Change, Remove, Move}

-- the account of a command that did nothing
abbrev pub nothing : Account
nothing = record { asks = []; touched = []; own = []; found = []; missed = [] }

-- whether an ask was told that something is there
abbrev pub is_found : Answer → Bool
is_found Found = true
is_found other = false

-- whether an ask was told that nothing is there
abbrev pub is_missed : Answer → Bool
is_missed Missed = true
is_missed other = false

-- what the command wrote, made or removed itself isn't asked for, and what it is told of that says nothing of before
abbrev pub asked : Account → Names → Answer → Account
asked account path answer = record account {
  asks = unless_among account.own account.asks path;
  found = if is_found answer then unless_among account.own account.found path else account.found;
  missed = if is_missed answer then unless_among account.own account.missed path else account.missed;
}

-- what may have been written
abbrev pub touched : Account → Names → Account
touched account path = record account { touched = with_path account.touched path }

-- what was written, made or removed
abbrev pub written : Account → Names → Account
written account path = record account { touched = with_path account.touched path; own = with_path account.own path }

-- what was moved; what is moved to its own place stays there
abbrev pub moved : Account → Names → Names → Account
moved account from to = if same_path from to then asked account from Unclear else written (written (asked account from Unclear) to) from

-- a step more
abbrev pub with_step : Account → Step → Account
with_step account (Ask path answer) = asked account path answer
with_step account (Write path) = written account path
with_step account (Change path) = touched (asked account path Unclear) path
with_step account (Remove path) = written (asked account path Unclear) path
with_step account (Move from to) = moved account from to

-- the account of what was done, step by step
abbrev pub account_of : List Step → Account
account_of steps = fold with_step nothing steps
