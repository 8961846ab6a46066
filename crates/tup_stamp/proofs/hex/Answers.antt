use Rattle.std.proofs.Common.{◌∙◌, arith, ◌≡◌, ◌*◌, length, Result, Ok, Err}
use Rattle.std.specs.Result.{IsOk, OnOk}
use Rattle.tup_stamp.proofs.Text.{encode_lower-hex_text}
use Rattle.tup_stamp.proofs.hex.Goals as goal

when_ok : {T E : Type 0} (r : Result T E) {P : Type 0} → IsOk r → OnOk r P → P
when_ok (Ok _) _ p = p
when_ok (Err _) h _ = cc

pub returns : goal.returns
returns c =
    let fits : 64 ≡ 2 * length c.args.stamp.now.0 = omega arith in
    when_ok _ (c.encode_to_slice.ensures.fits.1 fits) c.encode_to_slice.ensures.written ∙ encode_lower-hex_text c.args.stamp.now.0
