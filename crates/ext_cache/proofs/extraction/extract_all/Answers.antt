use Rattle.ext_cache.proofs.Common.{◌≡◌, ◌≤◌, ◌<◌, ◌+◌, ◌∙◌, ◌++◌, ◌∷◌, [], ℕ, true, false, List, length, get_or, take, vec_capacity, ap, sym, subst}
use Rattle.ext_cache.proofs.Common.{arith, length-append, CellKey, seen, dirty_cells, is_dirty, stamp_in, with_record, Extracted, Undo, undo_of}
use Rattle.std.proofs.Common.{Vec, Global}
use Rattle.std.proofs.lemmas.List.{length-map}
use Rattle.ext_cache.specs.Refusals.{IsUncleanIn}
use Rattle.tree_merges.proofs.HierMerge.CleanOrders.{clean_before, first_unclean_there, number_at, numbers, ordered_there}
use Rattle.ext_cache.proofs.LoopLaws.{has_work_next, has_work_passed, kept_below, made_along, passed, renewed, told_dirty, work_all, work_next}
use Rattle.ext_cache.proofs.LoopLaws.{work_passed}
use Rattle.ext_cache.proofs.UncleanLaws.{fault_same, unclean_in_order}
use Rattle.ext_cache.proofs.WorkLaws.{HasWorkOf}
use Rattle.ext_cache.proofs.extraction.extract_all.Goals as goal
use Rattle.ext_cache.proofs.extraction.extract_all.Goals.{then-is_stale+in_ok-made+in_ok-keep_logged, else-is_stale}

-- a place of keys is one of numbers
place_there : (order : List CellKey) (place : ℕ) → place < length order → place < length (numbers order)
place_there order place below = omega (arith, below, length-map order (λ (key : CellKey). key.0))

-- one more thing in a list
one_longer : {X : Type 0} (things : List X) (thing : X) (longer : List X) (most : ℕ) → longer ≡ things ++ thing ∷ [] → length things ≤ most
    → length longer ≤ most + 1
one_longer things thing longer most is few = omega (arith, ap length is, length-append things (thing ∷ []), few)

pub stamp-stamp-requires : goal.stamp-stamp-requires
stamp-stamp-requires g c =
    let order = c.args.order.now in
    ordered_there c.args.library.now c.lawful.ensures c.args.root.0 c.requires.root order
    (c.library_order_law.ensures.lists _ c.args.root.0 (numbers order) c.requires.order) c.loop-cell.cell-index (record { 0 = 0 })
    c.loop-cell-test.true

pub tree_record-requires-clause-cell : goal.tree_record-requires-clause-cell
tree_record-requires-clause-cell g c =
    let order = c.args.order.now in
    ordered_there c.args.library.now c.lawful.ensures c.args.root.0 c.requires.root order
    (c.library_order_law.ensures.lists _ c.args.root.0 (numbers order) c.requires.order) c.loop-cell.cell-index (record { 0 = 0 })
    c.loop-cell-test.true

pub tree_record-requires-clause-clean : goal.tree_record-requires-clause-clean
tree_record-requires-clause-clean g c =
    let library = c.args.library.now in
    let order = c.args.order.now in
    let there =
    ordered_there library c.lawful.ensures c.args.root.0 c.requires.root order
    (c.library_order_law.ensures.lists _ c.args.root.0 (numbers order) c.requires.order) c.loop-cell.cell-index (record { 0 = 0 })
    c.loop-cell-test.true in
    clean_before library order (c.library_order_law.ensures.children_first _ c.args.root.0 (numbers order) c.requires.order) c.loop-cell.cell-index
    (record { 0 = 0 }) c.loop-cell-test.true c.loop-cell.invariant.made.clean (c.unfolded.ensures _ there)

pub tree_record-requires-clause-records : goal.tree_record-requires-clause-records
tree_record-requires-clause-records g c =
    let order = c.args.order.now in
    let index = c.loop-cell.cell-index in
    let at = c.loop-cell in
    kept_below c.args.library.now (numbers order) index c.args.cache.now at.cache at.told.items at.log.items (get_or order index (record { 0 = 0 })).0
    (place_there order index c.loop-cell-test.true) (number_at order index (record { 0 = 0 }) 0 c.loop-cell-test.true)
    (c.library_order_law.ensures.lists _ c.args.root.0 (numbers order) c.requires.order).0 at.invariant.made
    (c.library_order_law.ensures.children_first _ c.args.root.0 (numbers order) c.requires.order)

pub returns-in_err-made-clause-unclean : goal.returns-in_err-made-clause-unclean
returns-in_err-made-clause-unclean g c =
    let view = seen c.args.library.now in
    let order = c.args.order.now in
    let index = c.loop-cell.cell-index in
    fault_same c.from_residual.result c.in_err-made.field-0.0 c.from_residual.ensures.1 (λ fault. IsUncleanIn view (numbers order) fault)
    (unclean_in_order view (numbers order) (get_or order index (record { 0 = 0 })).0 c.in_err-made.field-0.0
    (λ unclean. first_unclean_there view order index (record { 0 = 0 }) c.loop-cell-test.true c.loop-cell.invariant.made.clean unclean)
    c.in_err-made.ensures.unclean)

pub returns-in_err-made-clause-steps : goal.returns-in_err-made-clause-steps
returns-in_err-made-clause-steps g c work is =
    let library = c.args.library.now in
    let order = c.args.order.now in
    let at = c.loop-cell in
    let index = at.cell-index in
    let cell : ℕ = (get_or order index (record { 0 = 0 })).0 in
    work_all library (numbers order) index c.args.cache.now at.cache at.told.items at.log.items cell
    (place_there order index c.loop-cell-test.true) (number_at order index (record { 0 = 0 }) 0 c.loop-cell-test.true)
    (c.library_order_law.ensures.lists _ c.args.root.0 (numbers order) c.requires.order).0 at.invariant.made c.args.steps.now at.steps
    at.invariant.steps c.tree_record.new.steps
    (told_dirty library at.cache cell c.stamp-stamp.result c.is_stale.result true c.stamp-stamp.ensures c.is_stale.ensures c.if-is_stale.true)
    c.tree_record.ensures.steps work is

pub returns-in_err-keep_logged-clause-steps : goal.returns-in_err-keep_logged-clause-steps
returns-in_err-keep_logged-clause-steps g c work is =
    let library = c.args.library.now in
    let order = c.args.order.now in
    let at = c.loop-cell in
    let index = at.cell-index in
    let cell : ℕ = (get_or order index (record { 0 = 0 })).0 in
    work_all library (numbers order) index c.args.cache.now at.cache at.told.items at.log.items cell
    (place_there order index c.loop-cell-test.true) (number_at order index (record { 0 = 0 }) 0 c.loop-cell-test.true)
    (c.library_order_law.ensures.lists _ c.args.root.0 (numbers order) c.requires.order).0 at.invariant.made c.args.steps.now at.steps
    at.invariant.steps c.tree_record.new.steps
    (told_dirty library at.cache cell c.stamp-stamp.result c.is_stale.result true c.stamp-stamp.ensures c.is_stale.ensures c.if-is_stale.true)
    c.tree_record.ensures.steps work is

pub loop-cell-preserved : goal.loop-cell-preserved
loop-cell-preserved g c =
    let library = c.args.library.now in
    let order = c.args.order.now in
    let at = c.loop-cell in
    let index = at.cell-index in
    let cell : ℕ = (get_or order index (record { 0 = 0 })).0 in
    let below : index < length (numbers order) = place_there order index c.loop-cell-test.true in
    let here : get_or (numbers order) index 0 ≡ cell = number_at order index (record { 0 = 0 }) 0 c.loop-cell-test.true in
    let lists = c.library_order_law.ensures.lists _ c.args.root.0 (numbers order) c.requires.order in
    let there : cell < length library.contents =
    ordered_there library c.lawful.ensures c.args.root.0 c.requires.root order lists index (record { 0 = 0 }) c.loop-cell-test.true in
    elim c.if-is_stale.branch [
      | then-is_stale+in_ok-made+in_ok-keep_logged w ↦
          let made = w.in_ok-made.made in
          let dirty : is_dirty library at.cache cell ≡ true =
          told_dirty library at.cache cell c.stamp-stamp.result c.is_stale.result true c.stamp-stamp.ensures c.is_stale.ensures w.if-is_stale.true in
          let told : Extracted = record { cell = record { 0 = cell }; unattached = made.unattached } in
          let cache_is = w.cache-is ∙ w.in_ok-keep_logged.ensures.kept
          ∙ ap (λ (stamp : ℕ). with_record at.cache cell made.ext stamp) c.stamp-stamp.ensures in
          let told_is : c.if-is_stale.told.items ≡ at.told.items ++ told ∷ [] =
          ap (λ (vector : Vec Extracted Global). vector.items) w.told-is ∙ w.tell.ensures.told in
          let log_is : c.if-is_stale.log.items ≡ at.log.items ++ undo_of at.cache cell ∷ [] =
          ap (λ (vector : Vec Undo Global). vector.items) w.log-is ∙ w.in_ok-keep_logged.ensures.logged in
          record {
            made = made_along library (numbers order) (index + 1) c.args.cache.now (with_record at.cache cell made.ext (stamp_in library cell))
                c.if-is_stale.cache (at.told.items ++ told ∷ []) c.if-is_stale.told.items (at.log.items ++ undo_of at.cache cell ∷ [])
                c.if-is_stale.log.items cache_is told_is log_is
                (renewed library (numbers order) index c.args.cache.now at.cache at.told.items at.log.items cell below here lists.0 at.invariant.made
                made.ext made.unattached dirty there w.in_ok-made.ensures.record w.in_ok-made.ensures.unattached);
            logged = one_longer at.log.items (undo_of at.cache cell) c.if-is_stale.log.items index log_is at.invariant.logged;
            told = one_longer at.told.items told c.if-is_stale.told.items index told_is at.invariant.told;
            room_in_log = omega (arith, ap (λ (vector : Vec Undo Global). vec_capacity vector) w.log-is, w.keep_logged.ensures.room);
            room_in_told = omega (arith, ap (λ (vector : Vec Extracted Global). vec_capacity vector) w.told-is, w.tell.ensures.room);
            work = subst (HasWorkOf (seen library) (dirty_cells library c.args.cache.now (take (index + 1) (numbers order))) c.args.steps.now)
                (sym w.steps-is)
                (has_work_next library (numbers order) index c.args.cache.now at.cache at.told.items at.log.items cell below here lists.0
                at.invariant.made c.args.steps.now at.steps w.tree_record.new.steps dirty w.in_ok-made.ensures.work at.invariant.work);
            steps = λ work is. subst (λ (steps : ℕ). steps ≤ c.args.steps.now + work) (sym w.steps-is)
                (work_next library (numbers order) index c.args.cache.now at.cache at.told.items at.log.items cell below here lists.0
                at.invariant.made c.args.steps.now at.steps at.invariant.steps w.tree_record.new.steps dirty w.tree_record.ensures.steps work is);
          }
      | else-is_stale w ↦
          let clean : is_dirty library at.cache cell ≡ false =
          told_dirty library at.cache cell c.stamp-stamp.result c.is_stale.result false c.stamp-stamp.ensures c.is_stale.ensures w.if-is_stale.false in
          record {
            made = made_along library (numbers order) (index + 1) c.args.cache.now at.cache c.if-is_stale.cache at.told.items c.if-is_stale.told.items
                at.log.items c.if-is_stale.log.items w.cache-is (ap (λ (told : Vec Extracted Global). told.items) w.told-is)
                (ap (λ (log : Vec Undo Global). log.items) w.log-is)
                (passed library (numbers order) index c.args.cache.now at.cache at.told.items at.log.items cell below here lists.0 at.invariant.made clean);
            logged = omega (arith, ap (λ (vector : Vec Undo Global). length vector.items) w.log-is, at.invariant.logged);
            told = omega (arith, ap (λ (vector : Vec Extracted Global). length vector.items) w.told-is, at.invariant.told);
            room_in_log = omega (arith, ap (λ (vector : Vec Undo Global). vec_capacity vector) w.log-is);
            room_in_told = omega (arith, ap (λ (vector : Vec Extracted Global). vec_capacity vector) w.told-is);
            work = subst (HasWorkOf (seen library) (dirty_cells library c.args.cache.now (take (index + 1) (numbers order))) c.args.steps.now)
                (sym w.steps-is)
                (has_work_passed library (numbers order) index c.args.cache.now at.cache at.told.items at.log.items cell below here lists.0
                at.invariant.made c.args.steps.now at.steps clean at.invariant.work);
            steps = λ work is. subst (λ (steps : ℕ). steps ≤ c.args.steps.now + work) (sym w.steps-is)
                (work_passed library (numbers order) index c.args.cache.now at.cache at.told.items at.log.items cell below here lists.0
                at.invariant.made c.args.steps.now at.steps at.invariant.steps clean work is);
          }
    ]
