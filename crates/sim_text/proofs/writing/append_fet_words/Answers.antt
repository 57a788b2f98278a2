use Rattle.sim_text.proofs.AppendedText.{fet_appended, named}
use Rattle.sim_text.proofs.writing.append_fet_words.Goals as goal

pub returns : goal.returns
returns c =
    fet_appended (record {
      letter = c.args.letter;
      gate = c.args.gate.now;
      source = c.args.source.now;
      drain = c.args.drain.now;
      numbers = c.args.numbers.now;
    }) _ _ _ _ _ _ c.in_ok-push.ensures.items (named _ _ _ _ c.in_ok-append_word.ensures c.bytes.ensures)
    (named _ _ _ _ c.in_ok-append_word-2.ensures c.bytes-2.ensures) (named _ _ _ _ c.in_ok-append_word-3.ensures c.bytes-3.ensures)
    c.in_ok-append_numbers.ensures
