use Rattle.ext_text.proofs.Common.{ℕ, List, ◌++◌, map, subst, ap, ◌∙◌, codes, FetRec, nodes_text, fet_words}
use Rattle.std.proofs.lemmas.Result.{err_from_is_err_and}
use Rattle.ext_text.specs.WrittenTexts.{header_words, lines_text, IsTooLong}
use Rattle.ext_text.proofs.AppendedLines.{passed_on, flat_written, nodes_too_long}
use Rattle.ext_text.proofs.writing.write_circuit.Goals as goal

pub returns-in_err-write_nodes_within-clause-refused : goal.returns-in_err-write_nodes_within-clause-refused
returns-in_err-write_nodes_within-clause-refused c =
    let circuit = c.args.circuit.now in
    let fault = c.in_err-write_nodes_within.field-0.0 in
    let header = c.in_ok-write_header.ensures ∙ ap (λ (classes : List ℕ). c.args.out.now.items ++ lines_text
    (header_words (codes "1") circuit.tech classes)) c.items.ensures in
    passed_on c.from_residual-in_err-write_nodes_within.result fault _
    (err_from_is_err_and c.from_residual-in_err-write_nodes_within.result c.from_residual-in_err-write_nodes_within.ensures.1)
    (λ other.
    nodes_too_long circuit fault c.args.out.now.items c.write_header.new.out.items (c.write_header.new.out.items ++ nodes_text c.items-2.result.now) header
    (ap (λ nodes. c.write_header.new.out.items ++ nodes_text nodes) c.items-2.ensures)
    (c.in_err-write_nodes_within.ensures.refused other))

pub returns-in_err-write_fets_within-clause-refused : goal.returns-in_err-write_fets_within-clause-refused
returns-in_err-write_fets_within-clause-refused c =
    let circuit = c.args.circuit.now in
    let fault = c.in_err-write_fets_within.field-0.0 in
    let header = c.in_ok-write_header.ensures ∙ ap (λ (classes : List ℕ). c.args.out.now.items ++ lines_text
    (header_words (codes "1") circuit.tech classes)) c.items.ensures in
    let nodes = c.in_ok-write_nodes_within.ensures.written ∙ ap (λ nodes. c.write_header.new.out.items ++ nodes_text nodes) c.items-2.ensures in
    let whole = flat_written circuit c.args.out.now.items c.write_header.new.out.items c.write_nodes_within.new.out.items
    (c.write_nodes_within.new.out.items ++ lines_text (map fet_words c.items-3.result.now)) header nodes
    (ap (λ (fets : List FetRec). c.write_nodes_within.new.out.items ++ lines_text (map fet_words fets)) c.items-3.ensures) in
    passed_on c.from_residual-in_err-write_fets_within.result fault _
    (err_from_is_err_and c.from_residual-in_err-write_fets_within.result c.from_residual-in_err-write_fets_within.ensures.1)
    (λ other. subst (IsTooLong fault) whole (c.in_err-write_fets_within.ensures.refused other))

pub returns-clause-written : goal.returns-clause-written
returns-clause-written c =
    let circuit = c.args.circuit.now in
    let header = c.in_ok-write_header.ensures ∙ ap (λ (classes : List ℕ). c.args.out.now.items ++ lines_text
    (header_words (codes "1") circuit.tech classes)) c.items.ensures in
    let nodes = c.in_ok-write_nodes_within.ensures.written ∙ ap (λ nodes. c.write_header.new.out.items ++ nodes_text nodes) c.items-2.ensures in
    flat_written circuit c.args.out.now.items c.write_header.new.out.items c.write_nodes_within.new.out.items c.write_fets_within.new.out.items header nodes
    (c.in_ok-write_fets_within.ensures.written ∙ ap (λ (fets : List FetRec). c.write_nodes_within.new.out.items ++ lines_text
    (map fet_words fets)) c.items-3.ensures)
