use Rattle.std.proofs.Common.{◌≡◌, ◌++◌, string_bytes, drop}
use Rattle.std.specs.List.{flat_map}
use Rattle.tup_why.specs.Shown as specs
use Rattle.tup_why.proofs.showing.add_links.Given as goal

abbrev pub invariant-loop-link : goal.invariant-loop-link
invariant-loop-link l = string_bytes l.text ++ flat_map (specs.link_text l.rules) (drop l.link-index l.links) ≡ string_bytes l.fn.text ++ flat_map (specs.link_text l.rules) l.links
