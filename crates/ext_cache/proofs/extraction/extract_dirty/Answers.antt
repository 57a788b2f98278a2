use Rattle.ext_cache.proofs.Common.{◌≡◌, ℕ, List, map, subst, sym, CellKey, IsLibraryOrder, children_in, tree_at, seen}
use Rattle.hierarchy_model.specs.Laws.{CleanCellsKeepWhatTheyHave}
use Rattle.ext_cache.proofs.CleanLaws.{root_is_clean}
use Rattle.ext_cache.proofs.SerialLaws.{extraction_is_counted, serials_are_new}
use Rattle.ext_cache.proofs.extraction.extract_dirty.Goals as goal

-- an order of keys that is handed on
handed_on : (children : List (List ℕ)) (root : ℕ) (keys order : List CellKey) → keys ≡ order
    → IsLibraryOrder children root (map (λ key. key.0) order) → IsLibraryOrder children root (map (λ key. key.0) keys)
handed_on children root keys order same = subst (λ (all : List CellKey). IsLibraryOrder children root (map (λ key. key.0) all)) (sym same)

pub returns-in-Ok-clause-keeps : goal.returns-in-Ok-clause-keeps
returns-in-Ok-clause-keeps g c =
    let library = c.args.library.now in
    let keys = c.as_slice.result.now in
    let is_order = handed_on (children_in (seen library)) c.args.root.0 keys c.in_ok-order.order.items c.as_slice.ensures.value c.in_ok-order.ensures in
    let clean = root_is_clean library c.args.cache.now c.extract_all.new.cache c.args.root.0 (map (λ (key : CellKey). key.0) keys)
    c.extract_all.new.told.items c.requires.agrees is_order c.in-Ok.ensures.made in
    let law = subst CleanCellsKeepWhatTheyHave c.tech.ensures c.clean_cells_keep_what_they_have.ensures in
    law c.lawful.ensures.well_formed c.lawful.ensures.rules (tree_at (seen library) c.args.root.0) c.typed.ensures clean

pub returns-in-Ok-clause-counted : goal.returns-in-Ok-clause-counted
returns-in-Ok-clause-counted g c =
    let library = c.args.library.now in
    let keys = c.as_slice.result.now in
    let is_order = handed_on (children_in (seen library)) c.args.root.0 keys c.in_ok-order.order.items c.as_slice.ensures.value c.in_ok-order.ensures in
    extraction_is_counted library c.args.cache.now c.extract_all.new.cache c.args.root.0 c.extract_all.new.told.items
    (record { order = map (λ (key : CellKey). key.0) keys; is_order = is_order; makes = c.in-Ok.ensures.made })

pub returns-in-Ok-clause-serials : goal.returns-in-Ok-clause-serials
returns-in-Ok-clause-serials g c room =
    let library = c.args.library.now in
    let keys = c.as_slice.result.now in
    let is_order = handed_on (children_in (seen library)) c.args.root.0 keys c.in_ok-order.order.items c.as_slice.ensures.value c.in_ok-order.ensures in
    let order : List ℕ = map (λ (key : CellKey). key.0) keys in
    serials_are_new library c.args.cache.now c.extract_all.new.cache order c.extract_all.new.told.items
    (c.library_order_law.ensures.lists _ c.args.root.0 order is_order).0 c.in-Ok.ensures.made room

pub returns-in-Ok-clause-work : goal.returns-in-Ok-clause-work
returns-in-Ok-clause-work g c =
    let library = c.args.library.now in
    let keys = c.as_slice.result.now in
    let is_order = handed_on (children_in (seen library)) c.args.root.0 keys c.in_ok-order.order.items c.as_slice.ensures.value c.in_ok-order.ensures in
    let work = c.in-Ok.ensures.work in
    (work.0, record { order = map (λ (key : CellKey). key.0) keys; is_order = is_order; is_work = work.1 }, work.2)
