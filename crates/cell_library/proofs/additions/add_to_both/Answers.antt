use Rattle.cell_library.proofs.Common.{◌≡◌, ℕ, List, length, map, ap, subst, ◌∙◌, IfErr, OnOk, CellBody, CellUse, contents_with, new_views}
use Rattle.cell_library.proofs.Common.{views_from, Held, HasFaultOrLacksMemory, CellView}
use Rattle.cell_library.specs.steps.AddedCells.{AreInTree, TreeRefusesAll}
use Rattle.cell_library.proofs.ArrivingCells.{uses_fit, views_are_new}
use Rattle.cell_library.proofs.additions.add_to_both.Goals as goal

-- the views from the place where the first came are those of the new cells
views_after : (old new : List Held) (first : ℕ) (cells : List (List ℕ × CellBody)) (all_uses : List (List CellUse)) → first ≡ length old
    → new ≡ contents_with old cells → all_uses ≡ map (λ cell. cell.1.uses) cells → views_from new first all_uses ≡ new_views old cells
views_after old new first cells all_uses is added uses =
    ap (λ (n : ℕ). views_from new n all_uses) is ∙ views_are_new old new cells all_uses added uses

pub add_to_tree-requires-clause-uses : goal.add_to_tree-requires-clause-uses
add_to_tree-requires-clause-uses c =
    uses_fit c.args.contents.now c.add_contents.new.contents c.args.cells.items c.as_slice.result.now c.requires.fit c.in-Ok.ensures.added
    (c.as_slice.ensures.value ∙ c.in-Ok.ensures.uses)

pub returns-in-Ok-clause-tree : goal.returns-in-Ok-clause-tree
returns-in-Ok-clause-tree c =
    let views = views_after c.args.contents.now c.add_contents.new.contents c.len-first.result c.args.cells.items c.as_slice.result.now
    c.len-first.ensures c.in-Ok.ensures.added (c.as_slice.ensures.value ∙ c.in-Ok.ensures.uses) in
    subst (λ (seen : List CellView). OnOk c.add_to_tree.result (AreInTree seen c.args.tree.now c.add_to_tree.new.tree)) views c.add_to_tree.ensures.added

pub returns-in-Ok-clause-fault : goal.returns-in-Ok-clause-fault
returns-in-Ok-clause-fault c =
    let views = views_after c.args.contents.now c.add_contents.new.contents c.len-first.result c.args.cells.items c.as_slice.result.now
    c.len-first.ensures c.in-Ok.ensures.added (c.as_slice.ensures.value ∙ c.in-Ok.ensures.uses) in
    let seen = new_views c.args.contents.now c.args.cells.items in
    subst (λ (held : List Held). IfErr c.add_to_tree.result (HasFaultOrLacksMemory (TreeRefusesAll held seen c.args.tree.now))) c.in-Ok.ensures.added
    (subst (λ (views : List CellView). IfErr c.add_to_tree.result (HasFaultOrLacksMemory (TreeRefusesAll c.add_contents.new.contents views
    c.args.tree.now))) views c.add_to_tree.ensures.fault)
