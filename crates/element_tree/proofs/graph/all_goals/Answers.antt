use Rattle.element_tree.proofs.Common.{◌≡◌, ◌∷◌, ◌++◌, [], List, ℕ, Option, map, sym, ap, ◌∙◌, take, position, bytes_eq, UseRec, CellExt, goals_in}
use Rattle.std.proofs.lemmas.List.{map_more}
use Rattle.element_tree.proofs.graph.all_goals.Goals as goal

pub loop-ext-preserved : goal.loop-ext-preserved
loop-ext-preserved c =
    let cells = c.args.index.now in
    let exts = c.args.exts.now in
    let ext = c.ext-item.result in
    let one : c.of.result ≡ goals_in cells ext =
    c.of.ensures ∙ c.in_ok-goals_of.ensures ∙ ap (λ (uses : List UseRec). map (λ used. position (bytes_eq used.cell) cells) uses) c.items.ensures in
    c.in_ok-push.ensures.items
    ∙ ap (λ (graph : List (List (Option ℕ))). graph ++ c.of.result ∷ []) c.loop-ext.invariant
    ∙ ap (λ (goals : List (Option ℕ)). map (goals_in cells) (take c.loop-ext.ext-index exts) ++ goals ∷ []) one
    ∙ ap (λ (e : CellExt). map (goals_in cells) (take c.loop-ext.ext-index exts) ++ goals_in cells e ∷ []) c.ext-item.is
    ∙ sym (map_more (goals_in cells) exts c.loop-ext.ext-index ext c.loop-ext-test.true)
