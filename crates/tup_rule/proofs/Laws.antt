-- What follows from the definitions on rules: a test as a fact about lists, where a maker stands, and producers.
use Rattle.std.specs.Prelude.{◌≡◌, ℕ, zero, suc, ◌<◌, true, false, List, [], Some, None, slice_get, slice_index_or, Contains}
use Rattle.std.specs.Bool.{Decides}
use Rattle.std.proofs.Common.{refl, sym, ◌∙◌, subst, get_or}
use Rattle.std.proofs.lemmas.Bool.{false≢true, false_from_ne_true}
use Rattle.std.proofs.lemmas.List.Folds.{Any-from_list_any, list_any-from_Any, list_any_at}
use Rattle.std.proofs.lemmas.List.Quantifiers.{position-Some}
use Rattle.std.proofs.lemmas.Option.{get_or_from_slice_get, slice_get_within, slice_get-get_or}
use Rattle.tup_path.specs.Name.{Names}
use Rattle.tup_path.specs.Order.{same_path}
use Rattle.tup_path.proofs.Same.{same_path-decides}
use Rattle.tup_rule.specs.declared.rule.Rule.{Rule}
use Rattle.tup_rule.specs.Producer.{MakesFor, ProducerOver, DeclaredProducer}
use Rattle.tup_rule.specs.Rule.{among, writes, maker, is_generated}

-- a path is among others where the list contains it
pub among-decides : (path : Names) (paths : List Names) → Decides (among path paths) (Contains paths path)
among-decides path paths = (
  λ e.
      let found = Any-from_list_any (same_path path) paths e in
      let here : path ≡ found.1 = (same_path-decides path found.1).0 found.4 in
      (found.0, found.2, subst (λ (x : Names). slice_index_or paths found.0 x ≡ x) (sym here) found.3),
  λ h. list_any-from_Any (same_path path) paths (h.0, path, h.1, h.2, (same_path-decides path path).1 refl),
)

-- a path that a rule of the list writes is generated
pub is_generated-at : (rules : List Rule) (path : Names) (at : ℕ) (rule : Rule) → slice_get rules at ≡ Some rule → writes rule path ≡ true → is_generated rules path ≡ true
is_generated-at rules path at rule here e =
    list_any_at (λ (r : Rule). writes r path) rules at rule (slice_get_within rules at rule here)
    (subst (λ (r : Rule). writes r path ≡ true) (sym (get_or_from_slice_get rules at rule rule here)) e)

-- no rule of the list writes a path that isn't generated
pub writes-at : (rules : List Rule) (path : Names) (at : ℕ) (rule : Rule) → is_generated rules path ≡ false → slice_get rules at ≡ Some rule → writes rule path ≡ false
writes-at rules path at rule e here = false_from_ne_true (writes rule path) (λ w. false≢true (sym e ∙ is_generated-at rules path at rule here w))

-- a maker stands in the list, writes the path, and is the first that does
pub record IsMaker (rules : List Rule) (path : Names) (at : ℕ) : Type 0 where
  pub rule : Rule
  pub here : slice_get rules at ≡ Some rule
  pub writes_it : writes rule path ≡ true
  pub first : (before : ℕ) (other : Rule) → before < at → slice_get rules before ≡ Some other → writes other path ≡ false

pub maker-Some : (rules : List Rule) (path : Names) (at : ℕ) → maker path rules ≡ Some at → IsMaker rules path at
maker-Some rules path at e =
    let found = position-Some (λ (r : Rule). writes r path) rules at nobody e in
    record {
      rule = get_or rules at nobody;
      here = slice_get-get_or rules at nobody found.0;
      writes_it = found.1;
      first = λ before other less there. subst (λ (r : Rule). writes r path ≡ false) (get_or_from_slice_get rules before other nobody there) (found.2 before less);
    }
  where
    nobody : Rule
    nobody = record { dir = []; text = []; display = None; compare = false; inputs = []; order = []; outputs = [] }

-- the maker of a path that a rule declares is a declared producer of it
pub producer-one : (rules : List Rule) (rule : Rule) (at : ℕ) → MakesFor rules rule at → DeclaredProducer rules rule at
producer-one rules rule at makes = (0, makes)

-- and so is each declared producer of that maker
pub producer-more : (rules : List Rule) (rule next : Rule) (between at : ℕ) → MakesFor rules rule between → slice_get rules between ≡ Some next →
    DeclaredProducer rules next at → DeclaredProducer rules rule at
producer-more rules rule next between at makes here producer = (suc producer.0, (between, next, makes, here, producer.1))

producer-over : (steps : ℕ) (rules : List Rule) (rule next : Rule) (between at : ℕ) → ProducerOver steps rules rule between → slice_get rules between ≡ Some next →
    DeclaredProducer rules next at → DeclaredProducer rules rule at
producer-over zero rules rule next between at makes here producer = producer-more rules rule next between at makes here producer
producer-over (suc steps) rules rule next between at over here producer =
    producer-more rules rule over.1 over.0 at over.2 over.3 (producer-over steps rules over.1 next between at over.4 here producer)

-- a declared producer of a declared producer is one
pub producer-trans : (rules : List Rule) (rule next : Rule) (between at : ℕ) → DeclaredProducer rules rule between → slice_get rules between ≡ Some next →
    DeclaredProducer rules next at → DeclaredProducer rules rule at
producer-trans rules rule next between at first here second = producer-over first.0 rules rule next between at first.1 here second
