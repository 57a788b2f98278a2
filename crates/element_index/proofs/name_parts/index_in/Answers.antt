use Rattle.element_index.proofs.PartLaws.{no_number, not_short, not_shortest}
use Rattle.element_index.proofs.name_parts.index_in.Goals as goal
use Rattle.element_index.proofs.name_parts.index_in.Goals.{else-is_short-via-then-is_short+else-is_text_of, else-is_short-via-else-is_short}

pub returns-in_default-clause-none : goal.returns-in_default-clause-none
returns-in_default-clause-none c = λ z is. no_number c.args.word.now c.in_default.field-0 z c.in_default.ensures is

pub returns-else-is_short-clause-none : goal.returns-else-is_short-clause-none
returns-else-is_short-clause-none c =
    let word = c.args.word.now in λ z is. elim c.else-is_short.branch [
      | else-is_short-via-then-is_short+else-is_text_of w ↦ (
          not_shortest word c.in-Ok.z z w.is_text_of.result c.in-Ok.ensures w.is_text_of.ensures w.if-is_text_of.false is)
      | else-is_short-via-else-is_short w ↦ not_short word c.in-Ok.z z c.is_short.result c.in-Ok.ensures c.is_short.ensures w.if-is_short.false is
    ]
