use Rattle.script_lines.proofs.Common.{◌≡◌, ◌∙◌, [], ap, sym, Err, words_of, LineFault}
use Rattle.std.proofs.lemmas.Result.{IfErr-weaker, on_ok_weaker}
use Rattle.script_lines.proofs.ReadLaws.{read-none, read-rest}
use Rattle.script_lines.proofs.readings.nothing.Goals as goal

pub returns-clause-read : goal.returns-clause-read
returns-clause-read c = on_ok_weaker c.no_more.result (read-none (words_of c.args.line.now)) c.no_more.ensures.none

pub returns-clause-refused : goal.returns-clause-refused
returns-clause-refused c =
    IfErr-weaker c.no_more.result _ _
    (λ fault told other. read-rest (words_of c.args.line.now) told.1 ∙ ap (λ (f : LineFault). Err f) (sym told.0)) c.no_more.ensures.refused
