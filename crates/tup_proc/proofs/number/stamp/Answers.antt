use Rattle.std.proofs.Common.{sym, refl, ◌∙◌, arith}
use Rattle.tup_proc.proofs.Numbers.{not_decoded, decoded_bytes, other_digits, apart, alike}
use Rattle.tup_proc.proofs.number.stamp.Goals as goal

pub returns-then-is_err : goal.returns-then-is_err
returns-then-is_err c = not_decoded c.args.digits.now c.decode_to_slice.new.out _ c.decode_to_slice.result c.decode_to_slice.ensures.value refl (sym c.is_err.ensures.value ∙ c.if-is_err.true)

pub returns-then-ne : goal.returns-then-ne
returns-then-ne c =
    let said = c.as_slice.ensures ∙ c.hex.ensures in
    other_digits c.args.digits.now c.decode_to_slice.new.out _ c.decode_to_slice.result c.decode_to_slice.ensures.value refl
    (λ same. apart c.as_slice.result.now c.args.digits.now (sym c.ne.ensures ∙ c.if-ne.true) (said ∙ same))

pub returns : goal.returns
returns c =
    let said = c.as_slice.ensures ∙ c.hex.ensures in (
      record { size = omega arith; bytes = decoded_bytes c.args.digits.now c.decode_to_slice.new.out _ c.decode_to_slice.result c.decode_to_slice.ensures.value (sym c.is_err.ensures.value ∙ c.if-is_err.false) },
      sym (alike c.as_slice.result.now c.args.digits.now (sym c.ne.ensures ∙ c.if-ne.false)) ∙ said,
    )
