use Rattle.script_lines.proofs.Common.{◌≡◌, ◌∙◌, ◌∷◌, [], ap, sym, drop, rules, false, arith, common_steps, words_of, behind_word}
use Rattle.script_lines.proofs.Common.{begins_with_numbers}
use Rattle.script_lines.proofs.FrontLaws.{behind-next, drop-next, begins-next, begins-ends, begins-breaks, fit-some, fit-none, values-some}
use Rattle.script_lines.proofs.arguments.next_numbers.Goals as goal
use Rattle.script_lines.proofs.arguments.next_numbers.Goals.{in-Some, in-None}

pub returns-in_err-word-clause-formed : goal.returns-in_err-word-clause-formed
returns-in_err-word-clause-formed g c =
    let words = words_of c.args.rest.now.now in
    let none : drop c.loop-place.place-index words ≡ [] = cc c.in_err-word.ensures.words.1 in
    let broken : begins_with_numbers g.row.N words ≡ false = begins-ends c.loop-place.place-index g.row.N words (omega arith) none in
    grind (arith, common_steps)

pub returns-in_err-value-clause-formed : goal.returns-in_err-value-clause-formed
returns-in_err-value-clause-formed g c =
    let words = words_of c.args.rest.now.now in
    let at : drop c.loop-place.place-index words ≡ c.in_ok-word.word.now ∷ words_of c.next_word.new.rest.now = cc c.in_ok-word.ensures.words in
    let broken : begins_with_numbers g.row.N words ≡ false =
    begins-breaks c.loop-place.place-index g.row.N words c.in_ok-word.word.now (words_of c.next_word.new.rest.now) (omega arith)
    at c.in_err-value.ensures.formed.1 in
    grind (arith, common_steps)

pub loop-place-preserved : goal.loop-place-preserved
loop-place-preserved g c =
    let i = c.loop-place.place-index in
    let words = words_of c.args.rest.now.now in
    let word = c.in_ok-word.word.now in
    let more = words_of c.next_word.new.rest.now in
    let fits_as = sym c.in_ok-value.ensures.value in
    let at : drop i words ≡ word ∷ more = cc c.in_ok-word.ensures.words in
    record {
      size = search rules;
      behind = c.in_ok-word.ensures.behind ∙ ap behind_word c.loop-place.invariant.behind ∙ behind-next i c.args.rest.now.now;
      words = sym (drop-next i words word more at);
      formed = begins-next i words word more c.loop-place.invariant.formed at c.in_ok-value.ensures.formed;
      fit = elim c.match-branch-3.branch [
        | in-Some w ↦ w.fit-is ∙ fit-some i words word more w.in-Some.value c.loop-place.fit at
            (fits_as ∙ w.in-Some.is) c.loop-place.invariant.fit
        | in-None w ↦ w.fit-is ∙ sym (fit-none i words word more at (fits_as ∙ w.in-None.is))
      ];
      values = elim c.match-branch-3.branch [
        | in-Some w ↦ λ fit.
            let e = values-some i words word more w.in-Some.value c.loop-place.place-items at (fits_as ∙ w.in-Some.is) (omega arith)
            (c.loop-place.invariant.values (sym w.fit-is ∙ fit)) in
            search rules
        | in-None w ↦ λ fit. absurd (cc)
      ];
    }
