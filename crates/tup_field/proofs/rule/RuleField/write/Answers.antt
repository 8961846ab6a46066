use Rattle.tup_field.specs.Parts.{◌&◌, list, option}
use Rattle.tup_field.specs.Values.{truth, text, path}
use Rattle.tup_field.proofs.Written.{written_then}
use Rattle.tup_field.proofs.rule.RuleField.write.Goals as goal

pub returns : goal.returns
returns c =
    let rule = c.args.self.now in
    let new = c.write-7.new.bytes in
    let result = c.write-7.result in
    let behind_inputs = written_then (list path) (list path) rule.order rule.outputs c.write-5.new.bytes c.write-6.new.bytes new result c.in_ok-write-6.ensures c.write-7.ensures in
    let behind_compare = written_then (list path) (list path & list path) rule.inputs (rule.order, rule.outputs) c.write-4.new.bytes c.write-5.new.bytes new result c.in_ok-write-5.ensures behind_inputs in
    let behind_display = written_then truth (list path & list path & list path) rule.compare (rule.inputs, (rule.order, rule.outputs)) c.write-3.new.bytes c.write-4.new.bytes new result c.in_ok-write-4.ensures behind_compare in
    let behind_text = written_then (option text) (truth & list path & list path & list path) rule.display (rule.compare, (rule.inputs, (rule.order, rule.outputs))) c.write-2.new.bytes c.write-3.new.bytes new result c.in_ok-write-3.ensures behind_display in
    let behind_dir = written_then text (option text & truth & list path & list path & list path) rule.text (rule.display, (rule.compare, (rule.inputs, (rule.order, rule.outputs)))) c.write.new.bytes c.write-2.new.bytes new result c.in_ok-write-2.ensures behind_text in
    written_then path (text & option text & truth & list path & list path & list path) rule.dir (rule.text, (rule.display, (rule.compare, (rule.inputs, (rule.order, rule.outputs))))) c.args.bytes.now c.write.new.bytes new result c.in_ok-write.ensures behind_dir
