use Rattle.std.proofs.Common.{◌≡◌, Bool, List, Option, map, Ok, inr, refl, ap}
use Rattle.std.specs.List.{before_first, after_first, find}
use Rattle.std.specs.Option.{option_map}
use Rattle.tup_lex.specs.Word.{Word, span_of, inner_span, is_bar, is_bin, is_group}
use Rattle.tup_lex.specs.Parts.{assembled, made_of, gifts_of}
use Rattle.tup_lex.specs.declared.span.Span.{Span}
use Rattle.tup_lex.proofs.parts.assembled.Goals as goal

-- field by field
fields : (foreach : Bool) (command : Span) {inputs order made gifts outputs extra : List Word} {i o p e : List Span} {g b : Option Span} (all right : List Word) →
    inputs ≡ before_first is_bar all → order ≡ after_first is_bar all → made ≡ made_of right → gifts ≡ gifts_of right →
    outputs ≡ before_first is_bar made → extra ≡ after_first is_bar made →
    i ≡ map span_of inputs → o ≡ map span_of order → p ≡ map span_of outputs → e ≡ map span_of extra →
    g ≡ option_map span_of (find is_group gifts) → b ≡ option_map inner_span (find is_bin gifts) →
    record { foreach = foreach; inputs = i; order = o; command = command; outputs = p; extra = e; group = g; bin = b } ≡ assembled foreach all command right
fields foreach command all right before after made gifts outputs extra i o p e g b =
    rw (i, o, p, e, g, b) (rw (outputs, extra) (rw (before, after, made, gifts) refl))

pub returns : goal.returns
returns c = inr (ap Ok (fields c.args.foreach c.args.command c.args.inputs.now c.args.right.now
    c.around_bar.ensures.before c.around_bar.ensures.after c.before_gifts.ensures.made c.before_gifts.ensures.gifts
    c.around_bar-2.ensures.before c.around_bar-2.ensures.after
    c.in_ok-spans.ensures.ok c.in_ok-spans-2.ensures.ok c.in_ok-spans-3.ensures.ok c.in_ok-spans-4.ensures.ok
    c.group_of.ensures c.bin_of.ensures))
