-- Where an extraction is done, its root is clean.
use Rattle.ext_cache.proofs.Common.{◌≡◌, ℕ, inl, inr, List, [], ◌∷◌, refl, subst, In, stay, IsLibraryOrder, IsClean, children_in, tree_at}
use Rattle.ext_cache.proofs.Common.{LibraryParts, seen, Extracted, Agrees, MakesRecords, Records, dirty_cells, is_dirty, stamp_in, with_record}
use Rattle.std.specs.Prelude.{Bool, true, false}
use Rattle.finite_sets.proofs.Members.{In-filter}
use Rattle.use_orders.proofs.Visiting.{library_order-lists}
use Rattle.ext_cache.proofs.RecordLaws.{kept_clean}

module _ (library : LibraryParts) where
  -- a cell of which a record is made is clean
  made_of_clean : (cells : List ℕ) (records after : Records) (told : List Extracted) → MakesRecords library cells records after told
      → (key : ℕ) → In key cells → IsClean library.tech (tree_at (seen library) key)
  made_of_clean [] records after told makes key absent = absurd absent
  made_of_clean (cell ∷ cells) records after told (ext, unattached, rest, now, are, told_is, later) key (inl same) =
      subst (λ (at : ℕ). IsClean library.tech (tree_at (seen library) at)) same now.clean
  made_of_clean (cell ∷ cells) records after told (ext, unattached, rest, now, are, told_is, later) key (inr listed) =
      made_of_clean cells (with_record records cell ext (stamp_in library cell)) after rest later key listed

  -- so is one of the order, which is dirty or has a record that is its own
  pub root_is_clean : (records after : Records) (root : ℕ) (order : List ℕ) (told : List Extracted) → Agrees library records
      → IsLibraryOrder (children_in (seen library)) root order → MakesRecords library (dirty_cells library records order) records after told
      → IsClean library.tech (tree_at (seen library) root)
  root_is_clean records after root order told agrees is_order makes = by_mark (is_dirty library records root) refl
    where
      by_mark : (mark : Bool) → is_dirty library records root ≡ mark → IsClean library.tech (tree_at (seen library) root)
      by_mark true dirty =
          let here = (library_order-lists (children_in (seen library)) root order is_order).1 root stay in
          made_of_clean (dirty_cells library records order) records after told makes root (In-filter (is_dirty library records) root order here dirty)
      by_mark false fresh = (kept_clean library records root agrees fresh).1.1.clean
