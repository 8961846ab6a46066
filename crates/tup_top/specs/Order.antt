-- What the words of a command line ask for (own). A word that isn't known here can't stand anywhere.
use Rattle.std.specs.Prelude.{◌≡◌, ◌+◌, ◌-◌, ◌==◌, ◌&&◌, nat_le, max, min, ℕ, ⊤, Bool, true, false, ◌||◌, if◌then◌else◌, List, [], ◌∷◌, Option, None, Some, Result, Ok, Err, codes, bytes_eq}
use Rattle.tup_top.specs.declared.options.Jobs.{Jobs}
use Rattle.tup_top.specs.declared.options.Jobs.TheVariants as spoken
use Rattle.tup_top.specs.declared.options.Options.{Options}
use Rattle.tup_top.specs.declared.options.Program.{Program}
use Rattle.tup_top.specs.declared.options.Program.TheVariants.{NotNamed, Awaited, Named}
use Rattle.tup_top.specs.declared.order.Word.{Word}
use Rattle.tup_top.specs.declared.order.Order.{Order}
use Rattle.tup_top.specs.declared.order.Order.TheVariants.{Init, Upd, Todo, Verify, Demo}
use Rattle.tup_top.specs.declared.order.OrderFault.{OrderFault}
use Rattle.tup_top.specs.declared.order.OrderFault.TheVariants.{Usage, Memory}

-- what the words ask for, or the place of the first that can't stand, counted from 1; a word that is missing has the place
-- behind the last
abbrev pub Wanted : Type 0
Wanted = Result Order ℕ

-- the words ask for an update
abbrev pub IsUpdate : Wanted → Type 0
IsUpdate (Ok (Upd program keep_going quiet verbose explain jobs log)) = ⊤
IsUpdate (Ok Init) = ⊥
IsUpdate (Ok Todo) = ⊥
IsUpdate (Ok Verify) = ⊥
IsUpdate (Ok Demo) = ⊥
IsUpdate (Err place) = ⊥

-- the words ask for an update, or for what it would do: both bring the store up to date with the files
abbrev pub BringsUp : Wanted → Type 0
BringsUp (Ok (Upd program keep_going quiet verbose explain jobs log)) = ⊤
BringsUp (Ok Init) = ⊥
BringsUp (Ok Todo) = ⊤
BringsUp (Ok Verify) = ⊥
BringsUp (Ok Demo) = ⊥
BringsUp (Err place) = ⊥

-- the words ask for what an update would do
abbrev pub IsTodo : Wanted → Type 0
IsTodo (Ok (Upd program keep_going quiet verbose explain jobs log)) = ⊥
IsTodo (Ok Init) = ⊥
IsTodo (Ok Todo) = ⊤
IsTodo (Ok Verify) = ⊥
IsTodo (Ok Demo) = ⊥
IsTodo (Err place) = ⊥

-- the words ask for a comparison
abbrev pub IsVerify : Wanted → Type 0
IsVerify (Ok (Upd program keep_going quiet verbose explain jobs log)) = ⊥
IsVerify (Ok Init) = ⊥
IsVerify (Ok Todo) = ⊥
IsVerify (Ok Verify) = ⊤
IsVerify (Ok Demo) = ⊥
IsVerify (Err place) = ⊥

-- the words ask that a project begins
abbrev pub IsInit : Wanted → Type 0
IsInit (Ok (Upd program keep_going quiet verbose explain jobs log)) = ⊥
IsInit (Ok Init) = ⊤
IsInit (Ok Todo) = ⊥
IsInit (Ok Verify) = ⊥
IsInit (Ok Demo) = ⊥
IsInit (Err place) = ⊥

-- the words ask for an update or a comparison, which have commands run
abbrev pub HasCommandsRun : Wanted → Type 0
HasCommandsRun (Ok (Upd program keep_going quiet verbose explain jobs log)) = ⊤
HasCommandsRun (Ok Init) = ⊥
HasCommandsRun (Ok Todo) = ⊥
HasCommandsRun (Ok Verify) = ⊤
HasCommandsRun (Ok Demo) = ⊥
HasCommandsRun (Err place) = ⊥

-- whether what is asked for goes on after a bad verdict
abbrev pub goes_on : Wanted → Bool
goes_on (Ok (Upd program keep_going quiet verbose explain jobs log)) = keep_going
goes_on (Ok Init) = false
goes_on (Ok Todo) = false
goes_on (Ok Verify) = false
goes_on (Ok Demo) = false
goes_on (Err place) = false

-- how many of so many runners an update uses whose words say this: all where they say nothing
abbrev pub used_of : Option ℕ → ℕ → ℕ
used_of None many = many
used_of (Some jobs) many = max (min jobs many) 1

-- how many of so many runners what is asked for uses
abbrev pub used : Wanted → ℕ → ℕ
used (Ok (Upd program keep_going quiet verbose explain jobs log)) many = used_of jobs many
used (Ok Init) many = 1
used (Ok Todo) many = 1
used (Ok Verify) many = 1
used (Ok Demo) many = 1
used (Err place) many = 1

-- whether a word says this
abbrev pub says : List ℕ → Word → Bool
says text word = bytes_eq word.0 text

-- whether a word is an option
abbrev pub is_option : Word → Bool
is_option word = elim word.0 [ [] ↦ false | byte ∷ rest ↦ byte == 45 ]

-- an order that takes no further words, of which the first would stand at a place
abbrev pub alone : ℕ → Order → List Word → Wanted
alone place order [] = Ok order
alone place order (word ∷ words) = Err place

-- the options of no words
abbrev pub no_options : Options
no_options = record { program = NotNamed; keep_going = false; quiet = false; verbose = false; explain = false; jobs = spoken.NotSaid; log = false }

-- whether the next word names the program
abbrev pub is_awaited : Program → Bool
is_awaited NotNamed = false
is_awaited Awaited = true
is_awaited (Named program) = false

-- options where the next word names the program; none where one is named
abbrev pub awaiting_program : Options → Option Options
awaiting_program options = elim options.program [ NotNamed ↦ Some (record options { program = Awaited }) | Awaited ↦ None | Named program ↦ None ]

-- options and that it goes on; none where they say so
abbrev pub going_on : Options → Option Options
going_on options = if options.keep_going then None else Some (record options { keep_going = true })

-- options and that it says why each rule was run; none where they say so
abbrev pub explaining : Options → Option Options
explaining options = if options.explain then None else Some (record options { explain = true })

-- options and that it logs what it did; none where they say so
abbrev pub logging : Options → Option Options
logging options = if options.log then None else Some (record options { log = true })

-- options and what is shown; none where they say anything of that
abbrev pub showing : Bool → Bool → Options → Option Options
showing quiet verbose options = if options.quiet || options.verbose then None else Some (record options { quiet = quiet; verbose = verbose })

-- the number from 1 to 16 that a text has in digits, of which the first is no zero
abbrev pub jobs_in : List ℕ → Option ℕ
jobs_in [] = None
jobs_in (digit ∷ []) = if nat_le 49 digit && nat_le digit 57 then Some (digit - 48) else None
jobs_in (ten ∷ digit ∷ []) = if (ten == 49) && (nat_le 48 digit && nat_le digit 54) then Some (digit - 38) else None
jobs_in (one ∷ two ∷ three ∷ rest) = None

-- the number that stands in one word with `-j`
abbrev pub joined_jobs : List ℕ → Option ℕ
joined_jobs [] = None
joined_jobs (one ∷ []) = None
joined_jobs (one ∷ two ∷ digits) = if (one == 45) && (two == 106) then jobs_in digits else None

-- whether the next word says how many commands are run at a time
abbrev pub awaits_jobs : Jobs → Bool
awaits_jobs spoken.NotSaid = false
awaits_jobs spoken.Awaited = true
awaits_jobs (spoken.Said number) = false

-- options where the next word says how many commands are run at a time; none where it is said
abbrev pub awaiting_jobs : Options → Option Options
awaiting_jobs options = elim options.jobs [ spoken.NotSaid ↦ Some (record options { jobs = spoken.Awaited }) | spoken.Awaited ↦ None | spoken.Said number ↦ None ]

-- options that say this number; none where there is none
abbrev pub saying_jobs : Option ℕ → Options → Option Options
saying_jobs None options = None
saying_jobs (Some number) options = Some (record options { jobs = spoken.Said number })

-- options and a number in one word with `-j`; none where it is said
abbrev pub joining_jobs : Option ℕ → Options → Option Options
joining_jobs number options = elim options.jobs [ spoken.NotSaid ↦ saying_jobs number options | spoken.Awaited ↦ None | spoken.Said said ↦ None ]

-- options and one more of a name; each stands once, and one of `--quiet` and `--verbose` alone
abbrev pub with_option : List ℕ → Options → Option Options
with_option name options =
    if bytes_eq name (codes "--proc") then awaiting_program options
    else if bytes_eq name (codes "-k") then going_on options
    else if bytes_eq name (codes "--explain") then explaining options
    else if bytes_eq name (codes "--log") then logging options
    else if bytes_eq name (codes "--quiet") then showing true false options
    else if bytes_eq name (codes "--verbose") then showing false true options
    else if bytes_eq name (codes "-j") then awaiting_jobs options
    else joining_jobs (joined_jobs name) options

-- options and one word more, which names the program behind `--proc`, whatever it is, and is the number behind `-j`
abbrev pub taken : Word → Options → Option Options
taken word options =
    if is_awaited options.program then Some (record options { program = Named word.0 })
    else if awaits_jobs options.jobs then saying_jobs (jobs_in word.0) options
    else with_option word.0 options

-- how many commands are run at a time, if that is said; a number that is missing would stand at a place
abbrev pub jobs_said : ℕ → Jobs → Result (Option ℕ) ℕ
jobs_said place spoken.NotSaid = Ok None
jobs_said place spoken.Awaited = Err place
jobs_said place (spoken.Said number) = Ok (Some number)

-- the program that is named, if one is; one that is missing would stand at a place
abbrev pub program_named : ℕ → Program → Result (Option (List ℕ)) ℕ
program_named place NotNamed = Ok None
program_named place Awaited = Err place
program_named place (Named program) = Ok (Some program)

-- the update that options ask for; where their program or their number is missing, it would stand at a place
abbrev pub ended : ℕ → Options → Wanted
ended place options = elim (program_named place options.program) [
  | Err missing ↦ Err missing
  | Ok program ↦ elim (jobs_said place options.jobs) [ Err missing ↦ Err missing | Ok jobs ↦ Ok (Upd program options.keep_going options.quiet options.verbose options.explain jobs options.log) ]
]

-- the update that options ask for, and those of further words, the first of which stands at a place
abbrev pub options : ℕ → Options → List Word → Wanted
options place given [] = ended place given
options place given (word ∷ words) = elim (taken word given) [ None ↦ Err place | Some more ↦ options (place + 1) more words ]

-- how many words speak of a program
abbrev pub words_of_program : Program → ℕ
words_of_program NotNamed = 0
words_of_program Awaited = 1
words_of_program (Named program) = 2

-- one where it is so, and none else
abbrev pub one_if : Bool → ℕ
one_if b = if b then 1 else 0

-- how many words speak of how many commands are run at a time, at most
abbrev pub words_of_jobs : Jobs → ℕ
words_of_jobs spoken.NotSaid = 0
words_of_jobs spoken.Awaited = 1
words_of_jobs (spoken.Said number) = 2

-- how many words made these options, at most
abbrev pub count : Options → ℕ
count options = words_of_program options.program + one_if options.keep_going + one_if options.quiet + one_if options.verbose + one_if options.explain + words_of_jobs options.jobs + one_if options.log

-- no words mean an update, and so do options without an order
abbrev pub order : List Word → Wanted
order [] = ended 1 no_options
order (word ∷ words) =
    if is_option word then options 1 no_options (word ∷ words)
    else if says (codes "upd") word then options 2 no_options words
    else if says (codes "init") word then alone 2 Init words
    else if says (codes "todo") word then alone 2 Todo words
    else if says (codes "verify") word then alone 2 Verify words
    else if says (codes "demo") word then alone 2 Demo words
    else Err 1

-- what is answered to the words: what they ask for, or the place of the first that can't stand, but for want of memory
abbrev pub Answers : Wanted → Result Order OrderFault → Type 0
Answers wanted (Ok order) = wanted ≡ Ok order
Answers wanted (Err (Usage place)) = wanted ≡ Err place
Answers wanted (Err Memory) = ⊤
