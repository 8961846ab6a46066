-- How a trace is read. Each line has the number of a process and the name of a call in front, or a note that the call which
-- this process began is resumed; a call that only began has a note among its parts. A thread that runs a program takes the
-- number of its process, and a line says so before its call is resumed.
use Rattle.std.specs.Prelude.{◌≡◌, ◌<◌, length, slice_index_or, ℕ, suc, ◌==◌, nat_lt, bytes_eq, codes, nat_eq, ◌||◌, Bool, false, if◌then◌else◌, List, [], ◌∷◌, ◌++◌, Option, Some, None, Result, Ok, Err, find, remove}
use Rattle.std.specs.List.{list_any, position_or_len, starts_with}
use Rattle.tup_trace.specs.Line.{line_begun, read_byte, tokens_read, is_new}
use Rattle.tup_trace.specs.declared.call.Call.{Call}
use Rattle.tup_trace.specs.declared.fault.TraceFault.{TraceFault}
use Rattle.tup_trace.specs.declared.fault.TraceFault.TheVariants.{BadLine}
use Rattle.tup_trace.specs.declared.token.Token.{Token}
use Rattle.tup_trace.specs.declared.token.Token.TheVariants.{Word, Place}
use Rattle.tup_trace.specs.declared.trace.Line.{Line}
use Rattle.tup_trace.specs.declared.trace.Line.TheVariants as line
use Rattle.tup_trace.specs.declared.trace.Trace.{Trace}

-- a call of a process, by its name, with its parts
abbrev pub call : List ℕ → List ℕ → List Token → Call
call process name parts = record { process = process; name = name; parts = parts }

-- what the parts of a line say
abbrev pub line_of : List Token → Option Line
line_of (Word process ∷ Word name ∷ parts) = Some (line.Call (call process name parts))
line_of (Word process ∷ Place note ∷ parts) = Some (line.Rest (call process note parts))
line_of other = None

-- the note that a call only began; the call of a thread that runs a program ends under the number of its process
abbrev pub is_note : Token → Bool
is_note (Place note) = bytes_eq note (codes "unfinished ...") || starts_with nat_eq note (codes "pid changed to ")
is_note other = false

-- whether these parts are of a call that only began
abbrev pub is_begun : List Token → Bool
is_begun parts = list_any is_note parts

-- whether a call is one of this process
abbrev pub is_of : List ℕ → Call → Bool
is_of process call = bytes_eq call.process process

-- the calls without the first one of this process
abbrev pub without : List ℕ → List Call → List Call
without process calls = remove calls (position_or_len (is_of process) calls)

-- the calls that began, once a process is known to resume none
abbrev pub ended : List ℕ → List Call → List Call
ended process begun = by (find (is_of process) begun)
  where
    by : Option Call → List Call
    by None = begun
    by (Some call) = without process begun

-- the calls that began, once a thread runs a program as its process: what that one began is over, and what the thread began is its own
abbrev pub renumbered : List ℕ → List ℕ → List Call → List Call
renumbered process thread begun = by (find (is_of thread) (ended process begun))
  where
    by : Option Call → List Call
    by None = ended process begun
    by (Some began) = without thread (ended process begun) ++ call process began.name began.parts ∷ []

-- the thread that is a process from now on: `superseded by execve in pid N`, as the tracer says of the process
abbrev pub thread_of : Call → Option (List ℕ)
thread_of note = if bytes_eq note.name (codes "+++") then of note.parts else None
  where
    of : List Token → Option (List ℕ)
    of (Word what ∷ Word by ∷ Word call ∷ Word at ∷ Word unit ∷ Word thread ∷ more) = if bytes_eq what (codes "superseded") then Some thread else None
    of other = None

-- which calls are still to be resumed behind this one
abbrev pub begun_after : List Call → Call → List Call
begun_after begun said = by (thread_of said)
  where
    by : Option (List ℕ) → List Call
    by (Some thread) = renumbered said.process thread begun
    by None = if is_begun said.parts then begun ++ said ∷ [] else begun

-- where the first call of a process stands
pub record StandsAt (process : List ℕ) (calls : List Call) (place : ℕ) : Type 0 where
  pub within : place < length calls
  pub others : without process calls ≡ remove calls place
  pub found : (call : Call) → call ≡ slice_index_or calls place call → find (is_of process) calls ≡ Some call

-- a call, whole or begun
abbrev pub with_call : Trace → Call → Trace
with_call trace call = record trace { calls = trace.calls ++ call ∷ []; begun = begun_after trace.begun call }

-- the rest of a call, behind what its process began
abbrev pub with_rest : Trace → Call → Trace
with_rest trace rest = with (find (is_of rest.process) trace.begun)
  where
    with : Option Call → Trace
    with None = record trace { calls = trace.calls ++ rest ∷ [] }
    with (Some begun) = record trace {
      calls = trace.calls ++ call begun.process begun.name (begun.parts ++ rest.parts) ∷ [];
      begun = without rest.process trace.begun;
    }

-- a line more: a call, or the rest of one
abbrev pub joined : Trace → Line → Trace
joined trace (line.Call call) = with_call trace call
joined trace (line.Rest rest) = with_rest trace rest

-- the number of the next line; it stands still at the last u32
abbrev pub next_number : ℕ → ℕ
next_number number = if nat_lt number 4294967295 then suc number else 4294967295

-- a line is over
abbrev pub line_ended : Trace → Result Trace TraceFault
line_ended trace = read (tokens_read trace.reading)
  where
    join : Option Line → Result Trace TraceFault
    join None = Err (BadLine trace.line)
    join (Some line) = Ok (joined (record trace { reading = line_begun; line = next_number trace.line }) line)

    read : Option (List Token) → Result Trace TraceFault
    read None = Err (BadLine trace.line)
    read (Some tokens) = join (line_of tokens)

-- a byte more
abbrev pub followed : Trace → ℕ → Result Trace TraceFault
followed trace byte = if byte == 10 then line_ended trace else Ok (record trace { reading = read_byte trace.reading byte })

-- the calls, if the last line is over
abbrev pub all_read : Trace → Result (List Call) TraceFault
all_read trace = if is_new trace.reading then Ok trace.calls else Err (BadLine trace.line)

-- what follows a line that reads
abbrev pub go_on : Result Trace TraceFault → (Trace → Result (List Call) TraceFault) → Result (List Call) TraceFault
go_on (Ok trace) rest = rest trace
go_on (Err fault) rest = Err fault

-- the calls, if the bytes from here on are lines that read
abbrev pub read_all : List ℕ → Trace → Result (List Call) TraceFault
read_all [] trace = all_read trace
read_all (byte ∷ more) trace = go_on (followed trace byte) (read_all more)

-- a trace of which nothing was read
abbrev pub trace_begun : Trace
trace_begun = record { reading = line_begun; line = 1; calls = []; begun = [] }

-- the calls of a trace, one for each line, or its first line that doesn't read
abbrev pub calls_of : List ℕ → Result (List Call) TraceFault
calls_of bytes = read_all bytes trace_begun
