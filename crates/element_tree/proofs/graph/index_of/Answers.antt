use Rattle.element_tree.proofs.Common.{◌∷◌, ◌++◌, [], List, ℕ, Bool, cond, sym, ap, ◌∙◌, take, list_any, bytes_eq, cells_of}
use Rattle.element_tree.proofs.Cells.{new_cell, cells_more}
use Rattle.element_tree.proofs.graph.index_of.Goals as goal

pub loop-ext-preserved : goal.loop-ext-preserved
loop-ext-preserved c =
    let exts = c.args.exts.now in
    let before = cells_of (take c.loop-ext.ext-index exts) in
    let ext = c.ext-item.result in
    c.in_ok-insert.ensures.names
    ∙ ap (λ (name : List ℕ). cond (list_any (bytes_eq name) c.loop-ext.index) c.loop-ext.index (c.loop-ext.index ++ name ∷ [])) c.bytes.ensures
    ∙ ap (λ (names : List (List ℕ)). cond (list_any (bytes_eq ext.cell) names) names (names ++ ext.cell ∷ [])) c.loop-ext.invariant
    ∙ ap (λ (known : Bool). cond known before (before ++ ext.cell ∷ [])) (new_cell exts c.loop-ext.ext-index ext c.requires.cells_differ c.loop-ext-test.true
    (sym c.ext-item.is))
    ∙ sym (cells_more exts c.loop-ext.ext-index ext c.loop-ext-test.true (sym c.ext-item.is))
