-- What a fault in a Tupfile or in tup.config is called where it is printed (the wording is own).
use Rattle.std.specs.Prelude.{ℕ, List, ◌++◌, codes}
use Rattle.tup_lex.specs.declared.kind.ParseKind.{ParseKind}
use Rattle.tup_lex.specs.declared.kind.ParseKind.TheVariants.{NotUtf8, LineTooLong, UnknownLine, NoArrow, BadBrace, BadCaret, Unclosed, BadName, StrayElse, StrayEndif, MissingEndif, ConfigLine, OpenBracket, UnknownFlag, FlagNotHere, NoSuchMacro, NoSuchBin, DefinedTwice, MissingInput, DuplicateOutput, OutputIsSource, OutputIsDir, ForeignOutput, OutputBelowFile, DuplicateCommand, UserError, IncludeMissing, TooDeep}

-- the text of each kind; a fault that the user wrote has his own words behind `error: `
abbrev pub kind_text : ParseKind → List ℕ
kind_text NotUtf8 = codes "not UTF-8"
kind_text LineTooLong = codes "line too long"
kind_text UnknownLine = codes "unknown line"
kind_text NoArrow = codes "a rule has two arrows"
kind_text BadBrace = codes "bad word"
kind_text BadCaret = codes "bad caret part"
kind_text Unclosed = codes "unclosed bracket"
kind_text BadName = codes "bad name"
kind_text StrayElse = codes "else without if"
kind_text StrayEndif = codes "endif without if"
kind_text MissingEndif = codes "if without endif"
kind_text ConfigLine = codes "bad config line"
kind_text OpenBracket = codes "open bracket in glob"
kind_text UnknownFlag = codes "unknown percent flag"
kind_text FlagNotHere = codes "percent flag not allowed here"
kind_text NoSuchMacro = codes "no such macro"
kind_text NoSuchBin = codes "no such bin"
kind_text DefinedTwice = codes "macro defined twice"
kind_text MissingInput = codes "missing input"
kind_text DuplicateOutput = codes "output named twice"
kind_text OutputIsSource = codes "output is a source file"
kind_text OutputIsDir = codes "output is a directory"
kind_text ForeignOutput = codes "output stands elsewhere"
kind_text OutputBelowFile = codes "output stands below a file"
kind_text DuplicateCommand = codes "command given twice"
kind_text (UserError text) = codes "error: " ++ text
kind_text IncludeMissing = codes "include file missing"
kind_text TooDeep = codes "nested too deep"
