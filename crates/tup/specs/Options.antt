-- What the words of options ask for. Own.
use Rattle.std.specs.Prelude.{List, ℕ, Option, Some, None, Result, Ok, Err, if◌then◌else◌, ◌||◌, true, false, is_some, codes, bytes_eq}
use Rattle.tup_disk.specs.declared.disk.Syncs.{Syncs}
use Rattle.tup_disk.specs.declared.disk.Syncs.TheVariants.{Done, Once, Skipped}
use Rattle.tup_top.specs.Order.{jobs_in, joined_jobs}
use Rattle.tup.specs.declared.options.Voice.{Voice}
use Rattle.tup.specs.declared.options.Voice.TheVariants.{Quiet, Verbose}
use Rattle.tup.specs.declared.options.Options.{Options}
use Rattle.tup.specs.declared.options.Fault.{Fault}
use Rattle.tup.specs.declared.options.Fault.TheVariants.{Unknown, Twice, NoJobs, Both, BothSyncs}

-- the program that a word names
abbrev pub with_program : List ℕ → Options → Options
with_program word options = record options { program = Some word; awaits_program = false }

-- the option before a program, which may be given once
abbrev pub with_proc : List ℕ → Options → Result Options Fault
with_proc word options = if is_some options.program then Err (Twice word) else Ok (record options { awaits_program = true })

-- the option that says when what is written is made durable: one of the two may be given, once
abbrev pub with_syncs : Syncs → List ℕ → Options → Syncs → Result Options Fault
with_syncs syncs word options Done = Ok (record options { syncs = syncs })
with_syncs Skipped word options Skipped = Err (Twice word)
with_syncs Once word options Once = Err (Twice word)
with_syncs Done word options Skipped = Err BothSyncs
with_syncs Once word options Skipped = Err BothSyncs
with_syncs Done word options Once = Err BothSyncs
with_syncs Skipped word options Once = Err BothSyncs

-- the option by which each file is read, which may be given once
abbrev pub with_digest : List ℕ → Options → Result Options Fault
with_digest word options = if options.digests then Err (Twice word) else Ok (record options { digests = true })

-- the option by which an update goes on after a bad command, which may be given once
abbrev pub with_keep_going : List ℕ → Options → Result Options Fault
with_keep_going word options = if options.keep_going then Err (Twice word) else Ok (record options { keep_going = true })

-- the option that says how much is shown: one of the two may be given, once
abbrev pub with_voice : Voice → List ℕ → Options → Option Voice → Result Options Fault
with_voice voice word options None = Ok (record options { voice = Some voice })
with_voice Quiet word options (Some Quiet) = Err (Twice word)
with_voice Verbose word options (Some Verbose) = Err (Twice word)
with_voice Quiet word options (Some Verbose) = Err Both
with_voice Verbose word options (Some Quiet) = Err Both

-- the option before how many commands are run at a time, which may be given once
abbrev pub before_jobs : List ℕ → Options → Result Options Fault
before_jobs word options = if is_some options.jobs then Err (Twice word) else Ok (record options { awaits_jobs = true })

-- the number after it; anything but 1 to 16 is refused
abbrev pub with_jobs : Option ℕ → Options → Result Options Fault
with_jobs None options = Err NoJobs
with_jobs (Some number) options = Ok (record options { jobs = Some number; awaits_jobs = false })

-- a word that has the number in itself, of an option that may be given once; any other isn't known
abbrev pub with_joined : List ℕ → Option ℕ → Options → Result Options Fault
with_joined word None options = Err (Unknown word)
with_joined word (Some number) options = if is_some options.jobs then Err (Twice word) else Ok (record options { jobs = Some number })

-- options after a word that has to be another option; what can't be there is refused
abbrev pub with_option : List ℕ → Options → Result Options Fault
with_option word options = if bytes_eq word (codes "--proc") then with_proc word options
    else if bytes_eq word (codes "--digest") then with_digest word options
    else if bytes_eq word (codes "-k") then with_keep_going word options
    else if bytes_eq word (codes "--quiet") then with_voice Quiet word options options.voice
    else if bytes_eq word (codes "--verbose") then with_voice Verbose word options options.voice
    else if bytes_eq word (codes "-j") then before_jobs word options
    else with_joined word (joined_jobs word) options

-- when what is written is made durable, if a word says that
abbrev pub syncs_in : List ℕ → Option Syncs
syncs_in word = if bytes_eq word (codes "--no-sync") then Some Skipped
    else if bytes_eq word (codes "--sync-once") then Some Once
    else None

-- options after an option's word, which says when what is written is made durable, or something else
abbrev pub with_word : Option Syncs → List ℕ → Options → Result Options Fault
with_word (Some syncs) word options = with_syncs syncs word options options.syncs
with_word None word options = with_option word options

-- options after one word more: what has to follow, or else an option
abbrev pub added : List ℕ → Options → Result Options Fault
added word options = if options.awaits_program then Ok (with_program word options)
    else if options.awaits_jobs then with_jobs (jobs_in word) options
    else with_word (syncs_in word) word options

-- the first of two that says something
abbrev pub first_said : {T : Type 0} → Option T → Option T → Option T
first_said (Some said) other = Some said
first_said None other = other

-- when what is written is made durable, by the first of two that says it
abbrev pub syncs_by : Syncs → Syncs → Syncs
syncs_by Done other = other
syncs_by Once other = Once
syncs_by Skipped other = Skipped

-- options, and others for what they don't say
abbrev pub behind : Options → Options → Options
behind own others = record {
  program = first_said own.program others.program;
  syncs = syncs_by own.syncs others.syncs;
  digests = own.digests || others.digests;
  keep_going = own.keep_going || others.keep_going;
  voice = first_said own.voice others.voice;
  jobs = first_said own.jobs others.jobs;
  awaits_program = false;
  awaits_jobs = false;
}
