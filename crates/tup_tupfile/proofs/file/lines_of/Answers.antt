use Rattle.tup_tupfile.proofs.Files.{lines-ok, lines-err}
use Rattle.tup_tupfile.proofs.file.lines_of.Goals as goal

pub returns-in-Ok : goal.returns-in-Ok
returns-in-Ok c =
    let a = c.args in
    lines-ok a.dir.now a.file.now a.content.now c.in-Ok.all c.in-Ok.ensures.lines

pub returns-in-Err : goal.returns-in-Err
returns-in-Err c =
    let a = c.args in
    lines-err a.dir.now a.file.now a.content.now c.in-Err.fault c.lex_end.result c.in-Err.ensures.lines (rw (c.new.ensures, c.fault_line.ensures) at c.lex_end.ensures.refusal) c.lex_end.ensures.memory
