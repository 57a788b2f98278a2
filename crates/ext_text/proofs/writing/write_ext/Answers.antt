use Rattle.ext_text.proofs.Common.{ℕ, List, ◌++◌, map, ap, ◌∙◌, codes, FetRec, MergeRow, nodes_text, use_words, fet_words, merge_words}
use Rattle.ext_model.specs.declared.arrays.ArrayUse.{ArrayUse}
use Rattle.ext_text.specs.WrittenTexts.{header_words, lines_text}
use Rattle.ext_text.proofs.AppendedLines.{ext_written}
use Rattle.ext_text.proofs.writing.write_ext.Goals as goal

pub returns-clause-written : goal.returns-clause-written
returns-clause-written c =
    let ext = c.args.ext.now in
    ext_written ext c.new-out.result.items c.write_header.new.out.items c.write_uses.new.out.items c.write_nodes.new.out.items c.write_fets.new.out.items
    c.write_merges.new.out.items c.new-out.ensures.items
    (c.in_ok-write_header.ensures ∙ ap (λ (classes : List ℕ). c.new-out.result.items ++ lines_text (header_words (codes "2") ext.tech classes)) c.items.ensures)
    (c.in_ok-write_uses.ensures ∙ ap (λ (uses : List ArrayUse). c.write_header.new.out.items ++ lines_text (map use_words uses)) c.items-2.ensures)
    (c.in_ok-write_nodes.ensures ∙ ap (λ nodes. c.write_uses.new.out.items ++ nodes_text nodes) c.items-3.ensures)
    (c.in_ok-write_fets.ensures ∙ ap (λ (fets : List FetRec). c.write_nodes.new.out.items ++ lines_text (map fet_words fets)) c.items-4.ensures)
    (c.in_ok-write_merges.ensures ∙ ap (λ (merges : List MergeRow). c.write_fets.new.out.items ++ lines_text (map merge_words merges)) c.items-5.ensures)
