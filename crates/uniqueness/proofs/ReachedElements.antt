-- The elements of a tree rest on the records of the cells that uses lead to from the root.
use Rattle.uniqueness.proofs.Common.{◌≡◌, ℕ, zero, suc, List, [], ◌∷◌, ◌++◌, inl, inr, refl, ap, ◌∙◌, subst, Option, Some, None, flat_map, stay, go}
use Rattle.uniqueness.proofs.Common.{In, In-map, CellExt, UseRec, Element, ext_of, AgreeBelow}
use Rattle.finite_sets.proofs.Images.{In-flat_map_source}
use Rattle.circuit_commands.specs.CircuitModel.Elements.{elements_below, of_option}

-- lists that are alike for each thing are alike one behind the other
flat_map-same : {X Y : Type 0} (f g : X → List Y) (xs : List X) → ((x : X) → In x xs → f x ≡ g x) → flat_map f xs ≡ flat_map g xs
flat_map-same f g [] same = refl
flat_map-same {X} {Y} f g (x ∷ xs) same =
    ap (λ (ys : List Y). ys ++ flat_map f xs) (same x (inl refl))
    ∙ ap (λ (ys : List Y). g x ++ ys) (flat_map-same f g xs (λ y later. same y (inr later)))

module _ (exts others : List CellExt) where
  -- The record is that of a cell below which the lists agree.
  pub record IsReached (ext : CellExt) : Type 0 where
    pub cell : List ℕ
    pub agree : AgreeBelow exts others cell
    pub found : ext_of exts cell ≡ Some ext

  -- what a record that is reached uses is the same in both
  pub same_child : (ext : CellExt) → IsReached ext → (used : UseRec) → In used ext.uses → ext_of exts used.cell ≡ ext_of others used.cell
  same_child ext reached used within =
      reached.agree used.cell (go (ext, reached.found, In-map (λ (u : UseRec). u.cell) used ext.uses within) stay)

  -- and is reached
  pub child_reached : (ext : CellExt) → IsReached ext → (used : UseRec) → In used ext.uses → (child : CellExt) → ext_of exts used.cell ≡ Some child
      → IsReached child
  child_reached ext reached used within child is = record {
    cell = used.cell;
    agree = λ other way.
        reached.agree other (go (ext, reached.found, In-map (λ (u : UseRec). u.cell) used ext.uses within) way);
    found = is;
  }

  -- what stands below a use, by what its cell has
  below_use : (levels : ℕ) (uses : List UseRec) (cell : List ℕ) (found : Option CellExt) → ext_of exts cell ≡ found
      → ((child : CellExt) → ext_of exts cell ≡ Some child → elements_below levels exts uses child ≡ elements_below levels others uses child)
      → of_option (elements_below levels exts uses) found ≡ of_option (elements_below levels others uses) found
  below_use levels uses cell None is same = refl
  below_use levels uses cell (Some child) is same = same child is

  -- both lists have the same elements at and below a record that is reached
  pub same_elements : (levels : ℕ) (uses : List UseRec) (ext : CellExt) → IsReached ext
      → elements_below levels exts uses ext ≡ elements_below levels others uses ext
  unfolding elements_below
  same_elements zero uses ext reached = refl
  same_elements (suc levels) uses ext reached =
      let this : Element = record { uses = uses; ext = ext } in
      ap (λ (rest : List Element). this ∷ rest)
      (flat_map-same
      (λ used. of_option (elements_below levels exts (uses ++ used ∷ [])) (ext_of exts used.cell))
      (λ used. of_option (elements_below levels others (uses ++ used ∷ [])) (ext_of others used.cell))
      ext.uses
      (λ used within.
      below_use levels (uses ++ used ∷ []) used.cell (ext_of exts used.cell) refl
      (λ child is. same_elements levels (uses ++ used ∷ []) child (child_reached ext reached used within child is))
      ∙ ap (of_option (elements_below levels others (uses ++ used ∷ []))) (same_child ext reached used within)))

  -- each of them has a record that is reached
  below_reached : (levels : ℕ) (uses : List UseRec) (cell : List ℕ) (found : Option CellExt) (element : Element) → ext_of exts cell ≡ found
      → ((child : CellExt) → ext_of exts cell ≡ Some child → In element (elements_below levels exts uses child) → IsReached element.ext)
      → In element (of_option (elements_below levels exts uses) found) → IsReached element.ext
  below_reached levels uses cell None element is each here = absurd here
  below_reached levels uses cell (Some child) element is each here = each child is here

  pub elements_reached : (levels : ℕ) (uses : List UseRec) (ext : CellExt) → IsReached ext → (element : Element)
      → In element (elements_below levels exts uses ext) → IsReached element.ext
  unfolding elements_below
  elements_reached zero uses ext reached element here = absurd here
  elements_reached (suc levels) uses ext reached element (inl same) = subst IsReached (ap (λ (one : Element). one.ext) same) reached
  elements_reached (suc levels) uses ext reached element (inr later) =
      let source = In-flat_map_source (λ (used : UseRec). of_option (elements_below levels exts (uses ++ used ∷ [])) (ext_of exts used.cell))
      element ext.uses later in
      let used = source.0 in
      below_reached levels (uses ++ used ∷ []) used.cell (ext_of exts used.cell) element refl
      (λ child is. elements_reached levels (uses ++ used ∷ []) child (child_reached ext reached used source.1.0 child is) element) source.1.1
