-- The names that a record has of its nodes and beside its transistors.
use Rattle.flatten.proofs.Common.{◌≡◌, ℕ, ◌<◌, List, [], ◌∷◌, length, map, get_or, refl, sym, ◌∙◌, ap, subst, arith, inl, inr, ℤ, to_z, of_z, Some}
use Rattle.flatten.proofs.Common.{All, slice_get, flat_map, option_map, w32, w64, FitsSigned, ints, to_z-of_z, slice_get-get_or, slice_get_within}
use Rattle.flatten.proofs.Common.{slice_get-map, get_or_from_slice_get, same_Some, tree_of_names, In, In-map, In-map_source, All-from_In, All-In}
use Rattle.flatten.proofs.Common.{In-slice_get, NodeRec, TermRec, CellExt, IsLawfulFet, names_of, node_names, FullNames, Spot, AreNames, IsElement}
use Rattle.flatten.proofs.Common.{IsSpotOf, elements_in, TreeElement, ElementTree, IsFullNameList, no_flat, name_in, HasNames, AreSpotsIn}
use Rattle.flatten.proofs.Common.{element_at, cell_at, no_element, CellSpots}
use Rattle.finite_sets.proofs.Members.{In-append_left, In-append_right}
use Rattle.ext_model.specs.Lawful.{IsLawful, IsLawfulTerm}
use Rattle.name_classes.specs.FullNames.Names.{HasSpot, GivesName}
use Rattle.element_tree.specs.Trees.{StandsFor, AreAt}
use Rattle.flatten.specs.steps.Spots.{IsCellOf, HasFetNames, HasSpotAt, AreCellSpots}

-- a node's names stand among those of its record
pub name_among : (nodes : List NodeRec) (node : NodeRec) (name : List ℕ) → In node nodes → In name (names_of node) → In name (flat_map names_of nodes)
name_among [] node name h g = absurd h
name_among (first ∷ nodes) node name (inl e) g =
    In-append_left name (names_of first) (flat_map names_of nodes) (let P : NodeRec → Type 0 = λ n. In name (names_of n) in subst P (sym e) g)
name_among (first ∷ nodes) node name (inr h) g = In-append_right name (names_of first) (flat_map names_of nodes) (name_among nodes node name h g)

-- a record that an element has is lawful
pub lawful_cell : (names : FullNames) (cell : ℕ) (ext : CellExt) → AreNames names → IsCellOf names cell ext → IsLawful ext
lawful_cell names cell ext are is = All-In IsLawful names.exts.now ext are.records.lawful (In-slice_get names.exts.now cell ext is.found)

pub has_node_names : (names : FullNames) (cell : ℕ) (ext : CellExt) → IsCellOf names cell ext → HasNames names cell (map (λ node. node.name) ext.nodes)
has_node_names names cell ext is text among =
    let r = In-map_source (λ (node : NodeRec). node.name) text ext.nodes among in
    record { ext = ext; is = is; named = name_among ext.nodes r.0 text r.1.0 (inl r.1.1) }

pub has_fet_names : (names : FullNames) (cell : ℕ) (ext : CellExt) → AreNames names → IsCellOf names cell ext → All (HasFetNames names cell) ext.fets
has_fet_names names cell ext are is = All-from_In (HasFetNames names cell) ext.fets (λ fet here.
    (let lawful : IsLawfulFet ext fet = All-In (IsLawfulFet ext) ext.fets fet (lawful_cell names cell ext are is).fets here in
    record {
      gate = record { ext = ext; is = is; named = lawful.gate.node };
      terminals = λ text among.
          (let r = In-map_source (λ (side : TermRec). side.node) text fet.terminals among in
          let side : IsLawfulTerm ext r.0 = All-In (IsLawfulTerm ext) fet.terminals r.0 lawful.terminals r.1.0 in
          record { ext = ext; is = is; named = (let P : List ℕ → Type 0 = λ t. In t (node_names ext) in subst P r.1.1 side.node) });
    }))

-- What the tree has at a number is of the element of this number.
pub record IsHere (names : FullNames) (number : ℕ) (flat : TreeElement) : Type 0 where
  pub is : IsElement names number (element_at names number) flat
  pub cell : cell_at names number ≡ flat.cell
  pub for : StandsFor names.exts.now (element_at names number) flat
  pub of : IsCellOf names flat.cell (element_at names number).ext
  pub within : number < length (elements_in names)

pub element_here : (names : FullNames) → AreNames names → (flats : List TreeElement) → flats ≡ names.tree.now.elements → (number : ℕ)
    → number < length flats → (d : TreeElement) → IsHere names number (get_or flats number d)
element_here names are flats all number inside d =
    let tree = tree_of_names names are in
    let flat = get_or flats number d in
    let has : slice_get names.tree.now.elements number ≡ Some flat =
    ap (λ (l : List TreeElement). slice_get l number) (sym all) ∙ slice_get-get_or flats number d inside in
    let within : number < length (elements_in names) = (let long = tree.long in let same = ap length all in omega (arith, long, same, inside)) in
    let stands : slice_get (elements_in names) number ≡ Some (element_at names number) =
    slice_get-get_or (elements_in names) number no_element within in
    let at : AreAt (elements_in names) names.tree.now.elements number (element_at names number) flat = record { is = stands; has = has } in
    let for = tree.elements_are number (element_at names number) flat at in
    record {
      is = record { are = at };
      cell = get_or_from_slice_get (map (λ (one : TreeElement). one.cell) names.tree.now.elements) number flat.cell 0
          (slice_get-map (λ (one : TreeElement). one.cell) names.tree.now.elements number ∙ ap (option_map (λ (one : TreeElement). one.cell)) has);
      for = for;
      of = record {
        found = for.record_;
        reached = (element_at names number, (In-slice_get (elements_in names) number (element_at names number) stands, for.record_));
      };
      within = within;
    }

-- each element has something in the tree
pub flat_here : (names : FullNames) → AreNames names → (number : ℕ) → number < length (elements_in names)
    → IsHere names number (get_or names.tree.now.elements number no_flat)
flat_here names are number inside =
    let long = (tree_of_names names are).long in
    element_here names are names.tree.now.elements refl number (omega (arith, long, inside)) no_flat

-- a spot of the element's record is one that the names know
pub has_spot : (names : FullNames) → AreNames names → (number : ℕ) → number < length (elements_in names) → (spot : Spot) → HasSpotAt names number spot
    → HasSpot names number spot
has_spot names are number inside spot has =
    let here = flat_here names are number inside in
    record {
      element = element_at names number;
      flat = get_or names.tree.now.elements number no_flat;
      name = has.0;
      are = here.is;
      is_spot = (let P : ℕ → Type 0 = λ cell. IsSpotOf names cell has.0 spot in subst P here.cell has.1);
    }

-- the number of a name of the element's record has its full name
pub has_name_at : (names : FullNames) → AreNames names → (number : ℕ) → number < length (elements_in names) → (spot : Spot) (result : ℕ)
    → GivesName names number spot result → (list : List (List ℕ)) → IsFullNameList (elements_in names) list → (name : List ℕ)
    → IsSpotOf names (cell_at names number) name spot → slice_get list result ≡ Some (name_in (element_at names number) name)
has_name_at names are number inside spot result gives list is_list name is_spot =
    let here = flat_here names are number inside in
    let P : ℕ → Type 0 = λ cell. IsSpotOf names cell name spot in
    gives list is_list (element_at names number) (get_or names.tree.now.elements number no_flat) name here.is (subst P here.cell is_spot)

-- The record of an element, as it is read.
pub record IsRead (names : FullNames) (number : ℕ) (exts : List CellExt) (flat : TreeElement) : Type 0 where
  pub here : IsHere names number flat
  pub within : flat.cell < length exts
  pub ext : (d : CellExt) → get_or exts flat.cell d ≡ (element_at names number).ext
  pub lawful : IsLawful (element_at names number).ext

pub element_read : {names : FullNames} → AreNames names → {exts : List CellExt} → exts ≡ names.exts.now → {tree : ElementTree}
    → tree ≡ names.tree.now → {flats : List TreeElement} → flats ≡ tree.elements → {number : ℕ} → number < length flats
    → IsRead names number exts (get_or flats number no_flat)
element_read {names} are {exts} all_exts same {flats} all {number} inside =
    let flat = get_or flats number no_flat in
    let here = element_here names are flats (all ∙ ap (λ (tree : ElementTree). tree.elements) same) number inside no_flat in
    let ext = (element_at names number).ext in
    let found : slice_get exts flat.cell ≡ Some ext = ap (λ (l : List CellExt). slice_get l flat.cell) all_exts ∙ here.of.found in
    record {
      here = here;
      within = slice_get_within exts flat.cell ext found;
      ext = λ d. get_or_from_slice_get exts flat.cell ext d found;
      lawful = lawful_cell names flat.cell ext are here.of;
    }

-- there are spots of it
pub spots_within : {names : FullNames} {spots : List CellSpots} → AreCellSpots names spots → {exts : List CellExt} → exts ≡ names.exts.now
    → {number : ℕ} {flat : TreeElement} → IsRead names number exts flat → flat.cell < length spots
spots_within are all read = omega (arith, are.long, ap length all, read.within)

-- and these are they
pub spots_read : {names : FullNames} {spots : List CellSpots} → AreCellSpots names spots → {exts : List CellExt} → exts ≡ names.exts.now
    → {number : ℕ} {flat : TreeElement} → IsRead names number exts flat → (d : CellSpots)
    → AreSpotsIn names (cell_at names number) (element_at names number).ext (get_or spots flat.cell d)
spots_read {names} {spots} are all {number} {flat} read d =
    are.each number (get_or spots flat.cell d) read.here.within
    (ap (slice_get spots) read.here.cell ∙ slice_get-get_or spots flat.cell d (spots_within are all read))

-- a name with a spot in an element's record has one of the full names there
pub spot_named : (names : FullNames) → AreNames names → (number : ℕ) → number < length (elements_in names) → (name : List ℕ) (spot : Spot)
    → IsSpotOf names (cell_at names number) name spot → (list : List (List ℕ)) → IsFullNameList (elements_in names) list
    → In (name_in (element_at names number) name) list
spot_named names are number inside name spot is list is_list =
    let here = flat_here names are number inside in
    let element = element_at names number in
    let found : slice_get names.exts.now (cell_at names number) ≡ Some element.ext = ap (slice_get names.exts.now) here.cell ∙ here.of.found in
    let record_ : is.record_ ≡ element.ext = same_Some is.record_ element.ext (sym is.found ∙ found) in
    let P : CellExt → Type 0 = λ e. In name (node_names e) in
    (is_list.all (name_in element name)).1 (
      element,
      (
        In-slice_get (elements_in names) number element (slice_get-get_or (elements_in names) number no_element inside),
        In-map (name_in element) name (node_names element.ext) (subst P record_ is.named),
      ),
    )

-- numbers of 32 bits are read as they are
pub read_small : (z : ℤ) → FitsSigned w32 z → to_z w64 (of_z w64 z) ≡ z
read_small z small = to_z-of_z w64 z (omega (arith, ints, small))
