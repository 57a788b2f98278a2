use Rattle.script_lines.proofs.Common.{◌≡◌, ◌≢◌, ◌∙◌, [], sym, drop, replicate, arith, Err, common_steps, words_of, BadForm, Number}
use Rattle.script_lines.specs.Arguments.{read_words}
use Rattle.script_lines.proofs.ReadLaws.{read-numbers-bad, read-numbers-long, read-numbers-found, if-ok, if-err}
use Rattle.script_lines.proofs.arguments.last_numbers.Goals as goal

pub returns-in_err-values-clause-refused : goal.returns-in_err-values-clause-refused
returns-in_err-values-clause-refused g c =
    let e : read_words (replicate g.row.N Number) (words_of c.args.line.now) ≡ Err BadForm =
    read-numbers-bad g.row.N (words_of c.args.line.now) c.in_err-values.ensures.formed.1 in
    grind (arith, common_steps)

pub returns-in_err-no_more-clause-refused : goal.returns-in_err-no_more-clause-refused
returns-in_err-no_more-clause-refused g c =
    let long : drop g.row.N (words_of c.args.line.now) ≢ [] = λ none. c.in_err-no_more.ensures.refused.1 (c.in_ok-values.ensures.words ∙ none) in
    let e : read_words (replicate g.row.N Number) (words_of c.args.line.now) ≡ Err BadForm = read-numbers-long g.row.N (words_of c.args.line.now) long in
    grind (arith, common_steps)

pub returns-clause-read : goal.returns-clause-read
returns-clause-read g c =
    let e = read-numbers-found g.row.N (words_of c.args.line.now) c.in_ok-values.values c.in_ok-values.ensures.formed
    (sym c.in_ok-values.ensures.words ∙ c.in_ok-no_more.ensures.none) c.in_ok-values.ensures.values c.in_ok-values.ensures.fitting in
    rw c.ok_or.ensures.value (if-ok (read_words (replicate g.row.N Number) (words_of c.args.line.now)) c.in_ok-values.values e)

pub returns-clause-refused : goal.returns-clause-refused
returns-clause-refused g c =
    let e = read-numbers-found g.row.N (words_of c.args.line.now) c.in_ok-values.values c.in_ok-values.ensures.formed
    (sym c.in_ok-values.ensures.words ∙ c.in_ok-no_more.ensures.none) c.in_ok-values.ensures.values c.in_ok-values.ensures.fitting in
    rw c.ok_or.ensures.value (if-err (read_words (replicate g.row.N Number) (words_of c.args.line.now)) c.in_ok-values.values e)
