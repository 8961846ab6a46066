-- The edits that a swap of rules makes of a graph (own).
use Rattle.std.specs.Prelude.{◌≡◌, ◌⊎◌, ◌↔◌, ◌||◌, ℕ, suc, Bool, true, false, not, nat_eq, nat_le, List, [], ◌∷◌, ◌++◌, Option, None, Some, Contains, length, filter, map, filter_map, option_map, count_by, slice_get, if◌then◌else◌}
use Rattle.std.specs.FinMap as finite
use Rattle.tup_path.specs.Name.{Names}
use Rattle.tup_path.specs.Order.{by_names, same_path}
use Rattle.tup_rule.specs.declared.question.Reading.{Reading}
use Rattle.tup_rule.specs.declared.rule.Rule.{Rule}
use Rattle.tup_record.specs.declared.record.Record.TheVariants as records
use Rattle.tup_record.specs.declared.run.RunRecord.{RunRecord}
use Rattle.tup_graph.specs.declared.edit.Edit.{Edit}
use Rattle.tup_graph.specs.declared.edit.Edit.TheVariants.{Put, Remove}
use Rattle.tup_graph.specs.declared.owned.Owned.{Owned}
use Rattle.tup_graph.specs.Above.{IsAbove}
use Rattle.tup_graph.specs.Edits.{edited_by}
use Rattle.tup_graph.specs.Graph.{GraphState, empty_graph}
use Rattle.tup_graph.specs.Swap.{WasAt, owned_now, IsFlaggedYet, ReadsNew}
use Rattle.tup_graph.specs.Transactions.{flag_edits}
use Rattle.tup_closure.specs.Steps.{HasStepped, HasSteppedAtMost}

-- ---- what goes and doesn't come again

-- a flag goes
abbrev pub unflag : ℕ × Unit {0} → Edit
unflag flag = Remove (records.Modify flag.0)

-- a mark that a folder is to be read goes
abbrev pub uncreate : Names × Unit {0} → Edit
uncreate created = Remove (records.Create created.0)

-- a record of a run that tells nothing: what goes is named by its number alone
abbrev pub no_run : RunRecord
no_run = record { asks = []; writes = [] }

-- the record under a number goes
abbrev pub run_less : ℕ → Edit
run_less number = Remove (records.Run number no_run)

-- the record of a run goes
abbrev pub unrun : ℕ × RunRecord → Edit
unrun run = run_less run.0

-- records of runs go, save those of the numbers under which one comes
abbrev pub unrun_edits : (ℕ → Bool) → List (ℕ × RunRecord) → List Edit
unrun_edits kept runs = map unrun (filter (λ (run : ℕ × RunRecord). not (kept run.0)) runs)

-- flags and marks go, and the records of runs in whose place none comes; paths stay owned
abbrev pub clear_edits : (ℕ → Bool) → GraphState → List Edit
clear_edits kept g = map unflag (finite.entries g.flags) ++ map uncreate (finite.entries g.created) ++ unrun_edits kept (finite.entries g.runs)

-- ---- readings of folders are gone, and others are new

-- the reading of a folder goes, where there is one
abbrev pub unread : GraphState → Names → Option Edit
unread g dir = option_map (λ (reading : Reading). Remove (records.Reading dir reading)) (finite.get g.readings dir)

-- the folder of a reading
abbrev pub dir_of : Names × Reading → Names
dir_of one = one.0

-- a folder has this reading
abbrev pub read_so : Names × Reading → Edit
read_so one = Put (records.Reading one.0 one.1)

-- the readings of some folders go, and others come
abbrev pub reading_edits : GraphState → List (Names × Reading) → List Names → List Edit
reading_edits g fresh gone = filter_map (unread g) gone ++ map read_so fresh

-- ---- a rule goes, and a rule comes

-- a rule that tells nothing: what goes is named by its number alone
abbrev pub no_rule : Rule
no_rule = record { dir = []; text = []; display = None; compare = false; inputs = []; order = []; outputs = [] }

-- the rule of a number goes
abbrev pub rule_less : ℕ → Edit
rule_less number = Remove (records.Rule number 0 no_rule)

-- a rule comes, at this place among those of its folder
abbrev pub rule_more : ℕ → ℕ → Rule → Edit
rule_more number place rule = Put (records.Rule number place rule)

-- whether the rule of a number is taken away where so many come: the first one, with which go all behind it, and each in whose
-- place none comes
abbrev pub goes : ℕ → ℕ → Bool
goes count number = nat_eq number 0 || nat_le count number

-- rules go where so many come, the last one first, where the first one has this number
abbrev pub less_edits : ℕ → ℕ → List Rule → List Edit
less_edits count number [] = []
less_edits count number (rule ∷ rules) = less_edits count (suc number) rules ++ (if goes count number then rule_less number ∷ [] else [])

-- the place of a rule that comes behind others: how many of these are of its folder
abbrev pub place_behind : List Rule → Rule → ℕ
place_behind before rule = count_by (λ (other : Rule). same_path other.dir rule.dir) before

-- rules come behind others, each with its place among those of its folder
abbrev pub more_edits : List Rule → List Rule → List Edit
more_edits before [] = []
more_edits before (rule ∷ rules) = rule_more (length before) (place_behind before rule) rule ∷ more_edits (before ++ rule ∷ []) rules

-- ---- rules have these records, and paths are owned so

-- a rule has this record of its run
abbrev pub run_so : ℕ × RunRecord → Edit
run_so run = Put (records.Run run.0 run.1)

-- a path is owned so
abbrev pub own_so : Names × Owned → Edit
own_so owned = Put (records.Owned owned.0 owned.1.maker owned.1.state)

-- a rule that is the same has the record that it had
abbrev pub IsRunNow : GraphState → List Rule → ℕ → RunRecord → Type 0
IsRunNow g rules number run =
    (rule : Rule) × (before : ℕ) × (slice_get rules number ≡ Some rule) × WasAt g rule before × (finite.get g.runs before ≡ Some run)

-- the graph of rules and records of runs alone
abbrev pub led_by : List Rule → List (ℕ × RunRecord) → GraphState
led_by rules runs = edited_by empty_graph (more_edits [] rules ++ map run_so runs)

-- a graph of these rules, each with the record that it keeps
pub record IsLed (g : GraphState) (rules : List Rule) (led : GraphState) : Type 0 where
  pub rules_are : led.rules ≡ rules
  pub runs_are : (number : ℕ) (run : RunRecord) → (finite.get led.runs number ≡ Some run) ↔ IsRunNow g rules number run

-- the steps of a swap: those of a walk by the records that the rules keep, from the rules that read an output of a new one
abbrev pub SwapStepped : GraphState → List Rule → ℕ → ℕ → Type 0
SwapStepped g rules before after = (led : GraphState) × IsLed g rules led × HasStepped led (ReadsNew g led) before after

-- at most the steps of a swap
abbrev pub SwapSteppedAtMost : GraphState → List Rule → ℕ → ℕ → Type 0
SwapSteppedAtMost g rules before after = (led : GraphState) → IsLed g rules led → HasSteppedAtMost led (ReadsNew g led) before after

-- a rule that is to be run: as it is itself, or by what is recorded of reads
abbrev pub IsToRun : GraphState → GraphState → ℕ → Type 0
IsToRun g led number = IsFlaggedYet g led number ⊎ IsAbove led (ReadsNew g led) number

-- some of a list, which has the others too: each of these stands already
pub record AreNews {K X : Type 0} (Stands : K → X → Type 0) (all news : List (K × X)) : Type 0 where
  pub within : (k : K) (x : X) → Contains news (k, x) → Contains all (k, x)
  pub rest : (k : K) (x : X) → Contains all (k, x) → Contains news (k, x) ⊎ Stands k x

-- edits, and behind them the puts of those of a list that don't stand
abbrev pub PutsNews : {K X : Type 0} → (K → X → Type 0) → (K × X → Edit) → List (K × X) → List Edit → List Edit → Type 0
PutsNews {K} {X} Stands put all old new = (news : List (K × X)) × AreNews Stands all news × (new ≡ old ++ map put news)

-- the rule of a number had the same number before
abbrev pub HadNumber : List (Option ℕ) → ℕ → RunRecord → Type 0
HadNumber befores number run = slice_get befores number ≡ Some (Some number)

-- a path was owned so before
abbrev pub WasOwned : GraphState → Names → Owned → Type 0
WasOwned g path one = finite.get g.owned path ≡ Some one

-- edits, and behind them the puts of records of runs and of owned paths that don't stand, and flags
abbrev pub PutsAll : GraphState → List (Option ℕ) → List (ℕ × RunRecord) → finite.FinMap by_names Owned → List ℕ → List Edit → List Edit → Type 0
PutsAll g befores runs owned flags old new =
    (run_news : List (ℕ × RunRecord)) × (owned_news : List (Names × Owned)) × AreNews (HadNumber befores) runs run_news × AreNews (WasOwned g) (finite.entries owned) owned_news × (new ≡ old ++ map run_so run_news ++ map own_so owned_news ++ flag_edits flags)

-- all of it
pub record AreSwapEdits (g : GraphState) (fresh : List (Names × Reading)) (gone : List Names) (rules : List Rule) (edits : List Edit) : Type 0 where
  pub runs : List (ℕ × RunRecord)
  pub kept : ℕ → Bool
  pub owned : finite.FinMap by_names Owned
  pub run_news : List (ℕ × RunRecord)
  pub owned_news : List (Names × Owned)
  pub flags : List ℕ
  pub runs_are : (number : ℕ) (run : RunRecord) → Contains runs (number, run) ↔ IsRunNow g rules number run
  pub kept_are : (number : ℕ) → (kept number ≡ true) ↔ ((run : RunRecord) × IsRunNow g rules number run)
  pub owned_are : (path : Names) → finite.get owned path ≡ owned_now rules path (finite.get g.owned path)
  pub run_news_are : AreNews (λ number run. finite.get g.runs number ≡ Some run) runs run_news
  pub owned_news_are : AreNews (WasOwned g) (finite.entries owned) owned_news
  pub flags_are : (number : ℕ) → Contains flags number ↔ IsToRun g (led_by rules runs) number
  pub all : edits ≡ clear_edits kept g ++ reading_edits g fresh gone ++ less_edits (length rules) 0 g.rules ++ more_edits [] rules ++ map run_so run_news ++ map own_so owned_news ++ flag_edits flags
