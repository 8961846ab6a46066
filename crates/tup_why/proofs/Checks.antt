-- Chains that are tested link by link.
use Rattle.std.specs.Prelude.{◌≡◌, ◌↔◌, ◌⊎◌, ℕ, suc, ◌+◌, ◌<◌, Bool, true, false, List, [], ◌∷◌, Option, None, Some, Contains, length, drop, slice_get}
use Rattle.std.proofs.Common.{refl, sym, ap, subst, ◌∙◌, add-one, arith, drop-cons, get_or, not, inl, inr}
use Rattle.std.proofs.lemmas.Bool.{false≢true, true≢false}
use Rattle.std.specs.FinMap as finite
use Rattle.std.proofs.lemmas.Option.{get_or_from_slice_get, none-some, same_Some, slice_get_read, slice_get_within}
use Rattle.tup_path.specs.Name.{Names}
use Rattle.tup_stamp.specs.declared.Stamp.{Stamp}
use Rattle.tup_rule.specs.Rule.{declares, writes}
use Rattle.tup_rule.specs.declared.rule.Rule.{Rule}
use Rattle.tup_record.specs.declared.run.RunRecord.{RunRecord}
use Rattle.tup_graph.specs.Above.{HasAsked}
use Rattle.tup_graph.specs.Graph.{GraphState}
use Rattle.tup_graph.specs.Kept.{HasSeenStamps}
use Rattle.tup_core.specs.declared.plan.Plan.{Plan}
use Rattle.tup_why.specs.Cause.{GiveNone, GivesNone, GivesReason}
use Rattle.tup_why.specs.Reason.{GoesOn, IsPlanned, IsUnfinished, LeadsTo}
use Rattle.tup_why.proofs.Causes.{unfinished}
use Rattle.tup_why.proofs.Finding.{EachIn}
use Rattle.tup_why.specs.declared.reason.Link.{Link}
use Rattle.tup_why.specs.declared.reason.Link.TheVariants.{Reads, Writes}
use Rattle.tup_why.specs.declared.reason.Root.{Root}
use Rattle.tup_why.specs.declared.reason.Root.TheVariants.{NewRule}

-- from a place on, a list begins with what is there
from_there : (links : List Link) (at : ℕ) (link : Link) → slice_get links at ≡ Some link → drop at links ≡ link ∷ drop (at + 1) links
from_there links at link here =
    let less : at < length links = slice_get_within links at link here in
    rw (add-one at, drop-cons links at link) (ap (λ (x : Link). x ∷ drop (suc at) links) (get_or_from_slice_get links at link link here))

two_from_there : (links : List Link) (at : ℕ) (link next : Link) → slice_get links at ≡ Some link → slice_get links (at + 1) ≡ Some next
    → drop at links ≡ link ∷ next ∷ drop (at + 2) links
two_from_there links at link next here behind =
    let twice : (at + 1) + 1 ≡ at + 2 = omega arith in
    from_there links at link here ∙ ap (λ (l : List Link). link ∷ l) (from_there links (at + 1) next behind ∙ ap (λ (n : ℕ). next ∷ drop n links) twice)

module _ (g : GraphState) (plan : Plan) where
  -- a path leads from a rule to another
  abbrev pub Leads : ℕ → Names → ℕ → Type 0
  Leads number path next =
      (rule : Rule) × (reader : Rule) × IsPlanned plan number rule × (writes rule path ≡ true) × IsPlanned plan next reader × HasAsked g next path

  -- where two links lead on, the chain goes on from where they lead to
  pub hop_taken : (links : List Link) (at number next last : ℕ) (path : Names) → slice_get links at ≡ Some (Writes path) → slice_get links (at + 1) ≡ Some (Reads next)
      → Leads number path next → GoesOn g plan number (drop at links) last ↔ GoesOn g plan next (drop (at + 2) links) last
  hop_taken links at number next last path here behind (rule, reader, planned, wrote, is_planned, asked) =
      let parts = two_from_there links at (Writes path) (Reads next) here behind in (
        λ goes. behind_it (subst (λ (l : List Link). GoesOn g plan number l last) parts goes),
        λ goes. subst (λ (l : List Link). GoesOn g plan number l last) (sym parts) (rule, reader, planned, wrote, is_planned, asked, goes),
      )
    where
      behind_it : GoesOn g plan number (Writes path ∷ Reads next ∷ drop (at + 2) links) last → GoesOn g plan next (drop (at + 2) links) last
      behind_it (r, s, p, w, q, a, goes) = goes

  -- where no two links lead on, it goes nowhere
  pub hop_refused : (links : List Link) (number last : ℕ) → (links ≡ [] → ⊥)
      → ((path : Names) (next : ℕ) (rest : List Link) → links ≡ Writes path ∷ Reads next ∷ rest → Leads number path next → ⊥) → GoesOn g plan number links last → ⊥
  hop_refused [] number last some none_leads goes = some refl
  hop_refused (Reads next ∷ rest) number last some none_leads goes = goes
  hop_refused (Writes path ∷ []) number last some none_leads goes = goes
  hop_refused (Writes path ∷ Writes other ∷ rest) number last some none_leads goes = goes
  hop_refused (Writes path ∷ Reads next ∷ rest) number last some none_leads (rule, reader, planned, wrote, is_planned, asked, goes) =
      none_leads path next rest refl (rule, reader, planned, wrote, is_planned, asked)

  -- a chain whose links were all passed has ended
  pub all_passed : (links : List Link) (at number : ℕ) → drop at links ≡ [] → GoesOn g plan number (drop at links) number
  all_passed links at number none = subst (λ (l : List Link). GoesOn g plan number l number) (sym none) refl

-- ---- answers about what was found under a number
module _ {X : Type 0} (Is P : X → Type 0) where
  -- it is this one
  pub of_one : (it : X) → ((one : X) → (Some it ≡ Some one) ↔ Is one) → (b : Bool) → (b ≡ true) ↔ P it → (b ≡ true) ↔ ((one : X) × Is one × P one)
  of_one it is b decides = (λ t. (it, (is it).0 refl, decides.0 t), λ (one, that, p). decides.1 (subst P (sym (same_Some it one ((is one).1 that))) p))

  -- there is none
  pub of_none : ((one : X) → (None ≡ Some one) ↔ Is one) → (false ≡ true) ↔ ((one : X) × Is one × P one)
  of_none is = (λ wrong. absurd (false≢true wrong), λ (one, that, p). absurd (none-some one ((is one).1 that)))

pub found_is : {X : Type 0} (found it : Option X) → it ≡ found → (one : X) → (it ≡ Some one) ↔ (found ≡ Some one)
found_is found it same one = (λ is. sym same ∙ is, λ is. same ∙ is)

-- ---- answers of two tests
pub then_both : {P Q : Type 0} (b : Bool) → P → (b ≡ true) ↔ Q → (b ≡ true) ↔ (P × Q)
then_both b p decides = (λ t. (p, decides.0 t), λ both. decides.1 both.1)

pub else_neither : {P Q : Type 0} (a : Bool) → a ≡ false → (a ≡ true) ↔ P → (a ≡ true) ↔ (P × Q)
else_neither a off decides = (λ t. absurd (false≢true (sym off ∙ t)), λ both. decides.1 both.0)

-- ---- records
pub not_recorded : (recorded : Bool) (found : Option RunRecord) → (recorded ≡ true → found ≡ None → ⊥) → (recorded ≡ false → found ≡ None) → (not recorded ≡ true) ↔ (found ≡ None)
not_recorded true found is_there is_none = (λ (wrong : false ≡ true). absurd (false≢true wrong), λ none. absurd (is_there refl none))
not_recorded false found is_there is_none = (λ _. is_none refl, λ _. refl)

pub asked_in : (g : GraphState) (number : ℕ) (path : Names) (run : RunRecord) → Some run ≡ finite.get g.runs number → (b : Bool) → (b ≡ true) ↔ ((given : Option Stamp) × Contains run.asks (path, given))
    → (b ≡ true) ↔ HasAsked g number path
asked_in g number path run here b decides = (
  λ t. let (given, h) = decides.0 t in (run, given, sym here, h),
  λ (other, given, there, h). decides.1 (given, subst (λ (r : RunRecord). Contains r.asks (path, given)) (same_Some other run (sym there ∙ sym here)) h),
)

-- a record that gives no reason is that of an unfinished rule
pub idle_unfinished : (g : GraphState) (plan : Plan) (number : ℕ) (rule : Rule) (run : RunRecord) → Some run ≡ finite.get g.runs number → (b : Bool)
    → (b ≡ true) ↔ (HasSeenStamps g rule run × GiveNone g plan rule run.asks) → (b ≡ true) ↔ IsUnfinished g plan number rule
idle_unfinished g plan number rule run here b decides = (
  λ t. let (same, none) = decides.0 t in unfinished g plan number rule run (sym here) same none,
  λ is.
      let it_is : is.run ≡ run = same_Some is.run run (sym is.recorded ∙ sym here) in
      decides.1 (subst (λ (r : RunRecord). HasSeenStamps g rule r × GiveNone g plan rule r.asks) it_is (
        is.same,
        λ path given h. record { ran = λ maker other planned wrote. is.ran path given maker other h planned wrote; undeclared = λ maker other planned wrote. is.undeclared path given maker other h planned wrote },
      )),
)

pub unrecorded_finished : (g : GraphState) (plan : Plan) (number : ℕ) (rule : Rule) → None ≡ finite.get g.runs number → (false ≡ true) ↔ IsUnfinished g plan number rule
unrecorded_finished g plan number rule none = (λ wrong. absurd (false≢true wrong), λ is. absurd (none-some is.run (none ∙ is.recorded)))

-- ---- who gives a reason
-- where the other doesn't declare the path, only who has no record does
pub reason_unless : (recorded : Bool) (found : Option RunRecord) (declared : Bool) → declared ≡ false → (recorded ≡ true → found ≡ None → ⊥) → (recorded ≡ false → found ≡ None)
    → (not recorded ≡ true) ↔ ((declared ≡ true) ⊎ (found ≡ None))
reason_unless recorded found declared off is_there is_none =
    let decides = not_recorded recorded found is_there is_none in
    (λ t. inr (decides.0 t), λ reason. decides.1 (by reason))
  where
    by : (declared ≡ true) ⊎ (found ≡ None) → found ≡ None
    by (inl on) = absurd (false≢true (sym off ∙ on))
    by (inr none) = none

-- none of the rules that a plan runs gives one
pub give_no_reason : (g : GraphState) (plan : Plan) (rule : Rule) (path : Names) → EachIn (λ (number : ℕ). GivesReason g plan.rules (declares rule path) path number → ⊥) plan.reach → GivesNone g plan rule path
give_no_reason g plan rule path none = record {
  ran = λ maker other planned wrote unrecorded. none maker planned.reached ((other, planned.here, wrote), inr unrecorded);
  undeclared = λ maker other planned wrote. undeclared maker other planned wrote (declares rule path) refl;
}
  where
    undeclared : (maker : ℕ) (other : Rule) → IsPlanned plan maker other → writes other path ≡ true → (declared : Bool) → declares rule path ≡ declared → declares rule path ≡ false
    undeclared maker other planned wrote true is = absurd (none maker planned.reached ((other, planned.here, wrote), inl is))
    undeclared maker other planned wrote false is = is

-- one does
pub one_gives : (g : GraphState) (plan : Plan) (rule : Rule) (path : Names) (number : ℕ) → Contains plan.reach number → GivesReason g plan.rules (declares rule path) path number → GivesNone g plan rule path → ⊥
one_gives g plan rule path number reached ((other, here, wrote), inl declared) none = true≢false (sym declared ∙ none.undeclared number other (record { here = here; reached = reached }) wrote)
one_gives g plan rule path number reached ((other, here, wrote), inr unrecorded) none = none.ran number other (record { here = here; reached = reached }) wrote unrecorded

-- ---- chains from a new rule, and what is read of links
pub new_reason : (g : GraphState) (plan : Plan) (root : Root) (given links : List Link) (first : ℕ) (b : Bool) → root ≡ NewRule first → links ≡ given
    → ((rule : Rule) × IsPlanned plan first rule × (finite.get g.runs first ≡ None)) → (b ≡ true) ↔ ((last : ℕ) × GoesOn g plan first links last) → (b ≡ true) ↔ ((number : ℕ) × LeadsTo g plan root given number)
new_reason g plan root given links first b is same (rule, planned, none) decides = (
  λ t.
      let (last, goes) = decides.0 t in
      (last, subst (λ (r : Root). LeadsTo g plan r given last) (sym is) (rule, planned, none, subst (λ (l : List Link). GoesOn g plan first l last) same goes)),
  λ (number, leads). decides.1 (number, goes_of number (subst (λ (r : Root). LeadsTo g plan r given number) is leads)),
)
  where
    goes_of : (number : ℕ) → LeadsTo g plan (NewRule first) given number → GoesOn g plan first links number
    goes_of number (other, there, unrecorded, goes) = subst (λ (l : List Link). GoesOn g plan first l number) (sym same) goes

pub got : (links : List Link) (at : ℕ) (it link : Link) → at < length links → it ≡ get_or links at it → it ≡ link → slice_get links at ≡ Some link
got links at it link within is same = slice_get_read links (length links) at it refl within is ∙ ap (λ (l : Link). Some l) same
