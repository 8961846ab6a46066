-- The test of two rules, field by field, says whether they are equal.
use Rattle.std.proofs.Common.{◌≡◌, ◌&&◌, Bool, Option, Some, None, nat_eq, refl, ap}
use Rattle.std.specs.Bool.{Decides, beq}
use Rattle.std.specs.Option.{option_eq}
use Rattle.std.specs.Cmp.{booleans_Decides}
use Rattle.std.specs.Cmp.Lexicographic.{pointwise, pointwise_decides, bytes_decides}
use Rattle.std.proofs.lemmas.Bool.Decides.{Decides-and, Decides-at, Decides-like}
use Rattle.tup_path.specs.Order.{same_path}
use Rattle.tup_path.proofs.Same.{same_path-decides}
use Rattle.tup_rule.specs.declared.rule.Rule.{Rule}

option_eq-decides : {X : Type 0} {E : X → X → Bool} → ((x y : X) → Decides (E x y) (x ≡ y)) → (a b : Option X) → Decides (option_eq E a b) (a ≡ b)
option_eq-decides each None None = (λ e. refl, λ e. refl)
option_eq-decides each None (Some y) = (λ e. cc, λ e. cc)
option_eq-decides each (Some x) None = (λ e. cc, λ e. cc)
option_eq-decides each (Some x) (Some y) = (λ e. ap Some ((each x y).0 e), λ e. (each x y).1 (let h : x ≡ y = cc in h))

abbrev pub same_fields : Rule → Rule → Bool
same_fields a b =
    same_path a.dir b.dir && (pointwise nat_eq a.text b.text && (option_eq (pointwise nat_eq) a.display b.display && (beq a.compare b.compare && (pointwise same_path a.inputs b.inputs && (pointwise same_path a.order b.order && pointwise same_path a.outputs b.outputs)))))

same_fields-decides : (a b : Rule) → Decides (same_fields a b) (a ≡ b)
same_fields-decides a b =
    Decides-like (same_fields a b)
    (λ e. λ i. record { dir = e.0 i; text = e.1.0 i; display = e.1.1.0 i; compare = e.1.1.1.0 i; inputs = e.1.1.1.1.0 i; order = e.1.1.1.1.1.0 i; outputs = e.1.1.1.1.1.1 i })
    (λ e. (λ i. (e i).dir, (λ i. (e i).text, (λ i. (e i).display, (λ i. (e i).compare, (λ i. (e i).inputs, (λ i. (e i).order, λ i. (e i).outputs)))))))
    (Decides-and _ _ (same_path-decides a.dir b.dir)
    (Decides-and _ _ (bytes_decides a.text b.text)
    (Decides-and _ _ (option_eq-decides bytes_decides a.display b.display)
    (Decides-and _ _ (booleans_Decides a.compare b.compare)
    (Decides-and _ _ (pointwise_decides same_path-decides a.inputs b.inputs)
    (Decides-and _ _ (pointwise_decides same_path-decides a.order b.order)
    (pointwise_decides same_path-decides a.outputs b.outputs)))))))

pub same_fields-tells : (a b : Rule) (r : Bool) → r ≡ same_fields a b → Decides r (a ≡ b)
same_fields-tells a b r e = Decides-at r (same_fields a b) e (same_fields-decides a b)
