use Rattle.std.proofs.Common.{◌≡◌, take, None, map, []}
use Rattle.std.specs.List.{find}
use Rattle.std.specs.Option.{is_none, unwrap_or}
use Rattle.tup_path.specs.Name.{Names}
use Rattle.tup_access.specs.Judge.{last_written}
use Rattle.tup_access.proofs.judging.output_files.Given as goal

abbrev pub invariant-loop-output : goal.invariant-loop-output
invariant-loop-output l = record {
  none : find (λ (path : Names). is_none (last_written l.rule path l.writes)) (take l.output-index l.rule.outputs) ≡ None;
  files : l.files ≡ map (λ (path : Names). (path, unwrap_or (last_written l.rule path l.writes) [])) (take l.output-index l.rule.outputs);
}
