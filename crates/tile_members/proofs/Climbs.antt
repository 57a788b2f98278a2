-- Climbing from a node to the member that it is of, step by step.
use Rattle.tile_members.proofs.Common.{◌≡◌, ℕ, suc, List, [], ◌∷◌, inl, inr, refl, sym, ap, subst, All, IsSome, slice_get, In, slice_get-one}
use Rattle.tile_members.proofs.Common.{Transform, composed, identity, ArrayExt, path_text, plain, Table, ext_of, CellTree, Standing, place_back}
use Rattle.tile_members.proofs.Common.{standings, under, LibraryParts, IsLawfulLibrary, seen, view_at, back_on, identity_back, IsOfNode, IsGroupName}
use Rattle.tile_members.proofs.Common.{IsMemberOfPart, layouts_of_cell, named_tree_unfolds, Step, AreStepsTo, RecordsTellGroups, first_member}
use Rattle.tile_members.proofs.Common.{HasMembers, LeadsToMember, kept_in}
use Rattle.std.specs.Prelude.{Some}
use Rattle.finite_sets.specs.Chain.Chain.{stay, go}
use Rattle.finite_sets.proofs.Searches.{All-from_In}
use Rattle.element_paths.specs.CellLibrary.LayoutTrees.{own_cell, tree_at}
use Rattle.element_paths.proofs.CellLibrary.LayoutTreeLaws.{tree_unfolds}
use Rattle.element_paths.specs.LibraryTrees.TreeRecords.NamedTrees.{NamedTree}
use Rattle.tile_members.proofs.GroupMeetings.PartMembers.{member_at_part}
use Rattle.element_paths.specs.LibraryTrees.NamedCells.{named_tree_at}
use Rattle.element_paths.specs.LibraryTrees.KeptRecords.{HasKeptRecord}
use Rattle.element_paths.specs.ElementPaths.{LeadsDown, NamedElement}
use Rattle.tile_members.proofs.ChildCells.{IsChildOf, clean_element, element_child, element_member}

-- the element to which a step leads
abbrev element_of : LibraryParts → Step → Transform → NamedElement
element_of library step placed = record { id = step.id; placed = placed; tree = named_tree_at (seen library) step.child.0 }

module _ (library : LibraryParts) (lawful : IsLawfulLibrary library) (records : Table) where
  -- the cell to which a step leads is a child
  child_of : (cell element : ℕ) (step : Step) (placed : Transform) → HasMembers library records cell
      → LeadsDown (named_tree_at (seen library) cell) element step.position step.element (element_of library step placed)
      → IsChildOf library cell step.child.0
  child_of cell element step placed has leads =
      element_child library lawful cell step.position step.child.0 step.id placed has.there leads.there

  -- and its members can be found
  pub members_below : (cell element : ℕ) (step : Step) (placed : Transform) → HasMembers library records cell
      → LeadsDown (named_tree_at (seen library) cell) element step.position step.element (element_of library step placed)
      → HasMembers library records step.child.0
  members_below cell element step placed has leads =
      let child = child_of cell element step placed has leads in
      record {
        there = child.there;
        clean = clean_element library.tech (named_tree_at (seen library) cell) step.position (element_of library step placed) has.clean leads.there;
        records = λ below is.
            has.records below (record { child = step.child.0; uses = child.uses_it; at_or_below = go is.uses is.at_or_below });
      }

  -- a record of it is kept
  record_below : (cell element : ℕ) (step : Step) (placed : Transform) → HasMembers library records cell
      → LeadsDown (named_tree_at (seen library) cell) element step.position step.element (element_of library step placed)
      → HasKeptRecord (seen library) (kept_in records) step.child.0
  record_below cell element step placed has leads =
      let child = child_of cell element step placed has leads in
      has.records step.child.0 (record { child = step.child.0; uses = child.uses_it; at_or_below = stay })

  -- records are kept of the cells to which steps lead
  kept_along : (cell element : ℕ) (steps : List Step) → HasMembers library records cell → AreStepsTo (seen library) cell element steps
      → (step : Step) → In step steps → IsSome (ext_of records step.child)
  kept_along cell element [] has are step none = absurd none
  kept_along cell element (first ∷ rest) has (placed, leads, later) step (inl same) =
      let kept = record_below cell element first placed has leads in
      subst (λ (s : Step). IsSome (ext_of records s.child)) same (subst (λ o. IsSome o) (sym kept.is_kept) refl)
  kept_along cell element (first ∷ rest) has (placed, leads, later) step (inr behind) =
      kept_along first.child.0 first.element rest (members_below cell element first placed has leads) later step behind

  pub all_kept : (cell element : ℕ) (steps : List Step) → HasMembers library records cell → AreStepsTo (seen library) cell element steps
      → All (λ (step : Step). IsSome (ext_of records step.child)) steps
  all_kept cell element steps has are =
      All-from_In (λ (step : Step). IsSome (ext_of records step.child)) steps (kept_along cell element steps has are)

  -- a node of the cell's own is a member itself
  pub climb_start : (cell element : ℕ) (node name : List ℕ) → HasMembers library records cell → element ≡ 0 → name ≡ node
      → LeadsToMember (seen library) cell element node name
  climb_start cell element node name has none same = record {
    has = λ standing place stands is.
        let view = seen library in
        let top : Standing = record { part = 0; own = own_cell view cell; placed = identity } in
        let first : slice_get (standings (tree_at view cell)) 0 ≡ Some top =
        ap (λ (tree : CellTree). slice_get (standings tree) 0) (tree_unfolds library lawful cell has.there) in
        let one : standing ≡ top =
        slice_get-one (standings (tree_at view cell)) 0 standing top
        (subst (λ (n : ℕ). slice_get (standings (tree_at view cell)) n ≡ Some standing) none stands) first in
        let here : IsOfNode library.tech (view_at view cell).own (view_at view cell).labels node place =
        subst (IsOfNode library.tech (view_at view cell).own (view_at view cell).labels node) (identity_back place)
        (subst (λ (s : Standing). IsOfNode library.tech (view_at view s.own.cell).own (view_at view s.own.cell).labels node (place_back s.placed place))
        one is) in
        let member : IsMemberOfPart library.tech (named_tree_at view cell) 0 place node =
        subst (λ (tree : NamedTree). IsMemberOfPart library.tech tree 0 place node) (sym (named_tree_unfolds library lawful cell has.there)) here in
        subst (λ (n : List ℕ). IsMemberOfPart library.tech (named_tree_at view cell) standing.part place n) (sym same)
        (subst (λ (s : Standing). IsMemberOfPart library.tech (named_tree_at view cell) s.part place node) (sym one) member);
  }

  -- one step up
  pub climb_step : RecordsTellGroups library.tech → (cell element : ℕ) (step : Step) (placed : Transform) (node below name : List ℕ)
      → HasMembers library records cell
      → LeadsDown (named_tree_at (seen library) cell) element step.position step.element (element_of library step placed)
      → LeadsToMember (seen library) step.child.0 step.element node below
      → ((ext : ArrayExt) → ext_of records step.child ≡ Some ext → name ≡ path_text (step.id ∷ []) (first_member (plain ext).merges below))
      → LeadsToMember (seen library) cell element node name
  climb_step tells cell element step placed node below name has leads lower named = record {
    has = λ standing place stands is.
        let view = seen library in
        let kept = record_below cell element step placed has leads in
        let up : Standing = under (suc step.position) placed leads.lower in
        let there : slice_get (standings (tree_at view cell)) element ≡ Some up =
        subst (λ (tree : CellTree). slice_get (standings tree) element ≡ Some up) (layouts_of_cell view cell) leads.upper in
        let one : standing ≡ up = slice_get-one (standings (tree_at view cell)) element standing up stands there in
        let lower_there : slice_get (standings (tree_at view step.child.0)) step.element ≡ Some leads.lower =
        subst (λ (tree : CellTree). slice_get (standings tree) step.element ≡ Some leads.lower) (layouts_of_cell view step.child.0) leads.lower_there in
        let own = leads.lower.own.cell in
        let here : IsOfNode library.tech (view_at view own).own (view_at view own).labels node (place_back (composed leads.lower.placed placed) place) =
        subst (λ (s : Standing). IsOfNode library.tech (view_at view s.own.cell).own (view_at view s.own.cell).labels node (place_back s.placed place))
        one is in
        let member = lower.has leads.lower (place_back placed place) lower_there
        (subst (IsOfNode library.tech (view_at view own).own (view_at view own).labels node) (back_on leads.lower.placed placed place) here) in
        let child = members_below cell element step placed has leads in
        let group : IsGroupName library.tech (named_tree_at view step.child.0) (place_back placed place) (first_member (plain kept.ext).merges below) =
        tells lawful.well_formed lawful.rules (named_tree_at view step.child.0) (plain kept.ext) child.clean kept.is (place_back placed place) below
        (member_at_part library.tech (named_tree_at view step.child.0) leads.lower.part (place_back placed place) below member) in
        let whole = element_member library.tech (named_tree_at view cell) step.position (element_of library step placed) place
        (first_member (plain kept.ext).merges below) leads.there group in
        subst (λ (n : List ℕ). IsMemberOfPart library.tech (named_tree_at view cell) standing.part place n) (sym (named kept.ext kept.is_kept))
        (subst (λ (s : Standing). IsMemberOfPart library.tech (named_tree_at view cell) s.part place
        (path_text (step.id ∷ []) (first_member (plain kept.ext).merges below))) (sym one) whole);
  }

  -- ---- lists of steps

  -- what is said of a climb along steps: wherever they lead down to the node, the name is that of the member
  abbrev pub Climbs : List Step → List ℕ → List ℕ → Type 0
  Climbs steps node name =
      (cell element : ℕ) → HasMembers library records cell → AreStepsTo (seen library) cell element steps
      → LeadsToMember (seen library) cell element node name

  -- along no steps
  pub climbed_none : (steps : List Step) (node name : List ℕ) → steps ≡ [] → name ≡ node → Climbs steps node name
  climbed_none steps node name none same cell element has are =
      climb_start cell element node name has (subst (AreStepsTo (seen library) cell element) none are) same

  -- along one step more
  pub climbed_more : RecordsTellGroups library.tech → (steps : List Step) (step : Step) (rest : List Step) (node below name : List ℕ)
      → steps ≡ step ∷ rest → Climbs rest node below
      → ((ext : ArrayExt) → ext_of records step.child ≡ Some ext → name ≡ path_text (step.id ∷ []) (first_member (plain ext).merges below))
      → Climbs steps node name
  climbed_more tells steps step rest node below name same lower named cell element has are =
      along (subst (AreStepsTo (seen library) cell element) same are)
    where
      along : AreStepsTo (seen library) cell element (step ∷ rest) → LeadsToMember (seen library) cell element node name
      along (placed, leads, later) =
          climb_step tells cell element step placed node below name has leads
          (lower step.child.0 step.element (members_below cell element step placed has leads) later) named
