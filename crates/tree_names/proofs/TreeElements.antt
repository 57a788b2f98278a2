-- The elements of the records of a tree are the cells of the tree as they stand.
use Rattle.tree_names.proofs.Common.{◌≡◌, ℕ, suc, List, [], ◌∷◌, ◌++◌, map, Option, refl, sym, ◌∙◌, ap, subst, arith, AreOneForOne, Square}
use Rattle.tree_names.proofs.Common.{Transform, RawTech, CellExt, Element, elements_of, ext_of, NamedTree, NamedElements, NamedStanding}
use Rattle.tree_names.proofs.Common.{named_standings, named_standings_below, named_above, named_tree, no_more, element_then, HasTreeRecord}
use Rattle.tree_names.proofs.Common.{HasTreeRecords, HaveTreeRecords, IsTreeRecord, IsElementFor}
use Rattle.std.proofs.Common.{◌≤◌, zero, Some, append_assoc}
use Rattle.std.specs.List.{flat_map}
use Rattle.std.proofs.lemmas.List.{append-nil}
use Rattle.name_classes.proofs.FiniteSets.OneForOne.{AreOneForOne-append, AreOneForOne-map, AreOneForOne-weaker}
use Rattle.name_classes.specs.GeoCore.Images.{image, six_of}
use Rattle.name_classes.proofs.GeoCore.ImageLaws.{image-composed}
use Rattle.name_classes.specs.ExtModel.declared.records.UseRec.{UseRec}
use Rattle.name_classes.specs.CircuitModel.declared.limits.TheConstants.{LONGEST_CHAIN}
use Rattle.name_classes.specs.CircuitModel.Elements.{elements_below, of_option, placed}
use Rattle.name_classes.proofs.ElementTree.Transforms.{image-identity, transform_of-six}
use Rattle.own_record_laws.specs.TreeRecords.NamedTrees.{own_body}
use Rattle.own_record_laws.specs.TreeRecords.TreeRecords.{use_records}
use Rattle.tree_names.specs.CleanTrees.{depth_of, depth_below}

-- the record of the cell at the top
pub top_record : (raw : RawTech) (exts : List CellExt) (tree : NamedTree) → HasTreeRecords raw exts tree → HasTreeRecord raw exts tree
top_record raw exts (named_tree own elements) has = has.0

-- what is found under one name is one record
pub one_record : (exts : List CellExt) (name : List ℕ) (ext other : CellExt) → ext_of exts name ≡ Some ext → ext_of exts name ≡ Some other
    → ext ≡ other
one_record exts name ext other found also = cc

-- the record that is found under a cell's name is the cell's
pub record_is : (raw : RawTech) (exts : List CellExt) (tree : NamedTree) (ext : CellExt) → HasTreeRecord raw exts tree
    → ext_of exts (own_body tree).name ≡ Some ext → IsTreeRecord raw tree ext
record_is raw exts tree ext has found =
    subst (IsTreeRecord raw tree) (one_record exts (own_body tree).name has.ext ext has.found found) has.is

-- The element stands behind these uses, and is the cell as it stands from there.
record StandsBehind (raw : RawTech) (exts : List CellExt) (uses : List UseRec) (standing : NamedStanding) (element : Element) : Type 0 where
  rest : List UseRec
  uses_are : element.uses ≡ uses ++ rest
  ids : map (λ used. used.id) rest ≡ standing.ids
  moves : (square : Square) → placed rest square ≡ image standing.placed square
  found : ext_of exts standing.own.name ≡ Some element.ext
  tree : NamedTree
  own : own_body tree ≡ standing.own
  is : IsTreeRecord raw tree element.ext

-- the use of an element
abbrev use_for : List ℕ → Transform → NamedTree → UseRec
use_for id transform tree = record { cell = (own_body tree).name; id = id; six = six_of transform }

-- what the uses lead to
abbrev behind : ℕ → List CellExt → List UseRec → List UseRec → List Element
behind levels exts uses list = flat_map (λ used. of_option (elements_below levels exts (uses ++ used ∷ [])) (ext_of exts used.cell)) list

module _ (raw : RawTech) (exts : List CellExt) where
  -- what stands behind one more use
  behind_use : (uses : List UseRec) (id : List ℕ) (transform : Transform) (tree : NamedTree) (standing : NamedStanding) (element : Element)
      → StandsBehind raw exts (uses ++ use_for id transform tree ∷ []) standing element
      → StandsBehind raw exts uses (named_above id transform standing) element
  behind_use uses id transform tree standing element stands = record {
    rest = use_for id transform tree ∷ stands.rest;
    uses_are = stands.uses_are ∙ append_assoc uses (use_for id transform tree ∷ []) stands.rest;
    ids = ap (λ (ids : List (List ℕ)). id ∷ ids) stands.ids;
    moves = λ square.
        ap (λ (t : Transform). image t (placed stands.rest square)) (transform_of-six transform)
        ∙ ap (image transform) (stands.moves square)
        ∙ sym (image-composed standing.placed transform square);
    found = stands.found;
    tree = stands.tree;
    own = stands.own;
    is = stands.is;
  }

  mutual
    unfolding elements_below

    -- the elements below a record are those of its cell
    elements_stand : (tree : NamedTree) (levels : ℕ) (uses : List UseRec) (ext : CellExt) → HasTreeRecords raw exts tree
        → ext_of exts (own_body tree).name ≡ Some ext → depth_of tree ≤ levels
        → AreOneForOne (StandsBehind raw exts uses) (named_standings tree) (elements_below levels exts uses ext)
    elements_stand (named_tree own elements) zero uses ext has found deep = absurd (omega (arith, deep))
    elements_stand (named_tree own elements) (suc levels) uses ext has found deep =
        let is = record_is raw exts (named_tree own elements) ext has.0 found in (
          record {
            rest = [];
            uses_are = sym (append-nil uses);
            ids = refl;
            moves = λ square. sym (image-identity square);
            found = found;
            tree = named_tree own elements;
            own = refl;
            is = is;
          },
          subst (λ (list : List UseRec). AreOneForOne (StandsBehind raw exts uses) (named_standings_below elements)
              (behind levels exts uses list)) (sym is.uses)
              (below_stand elements levels uses has.1 (omega (arith, deep))),
        )

    below_stand : (elements : NamedElements) (levels : ℕ) (uses : List UseRec) → HaveTreeRecords raw exts elements
        → depth_below elements ≤ levels
        → AreOneForOne (StandsBehind raw exts uses) (named_standings_below elements) (behind levels exts uses (use_records elements))
    below_stand no_more levels uses have deep = tt
    below_stand (element_then id transform tree rest) levels uses have deep =
        let used = use_for id transform tree in
        let top = top_record raw exts tree have.0 in
        let here = elements_stand tree levels (uses ++ used ∷ []) top.ext have.0 top.found (omega (arith, deep)) in
        let moved = AreOneForOne-map (StandsBehind raw exts (uses ++ used ∷ [])) (StandsBehind raw exts uses) (named_above id transform)
        (behind_use uses id transform tree) (named_standings tree) (elements_below levels exts (uses ++ used ∷ []) top.ext) here in
        AreOneForOne-append (StandsBehind raw exts uses) (map (named_above id transform) (named_standings tree)) (named_standings_below rest)
        (of_option (elements_below levels exts (uses ++ used ∷ [])) (ext_of exts used.cell)) (behind levels exts uses (use_records rest))
        (subst (λ (found : Option CellExt). AreOneForOne (StandsBehind raw exts uses) (map (named_above id transform) (named_standings tree))
        (of_option (elements_below levels exts (uses ++ used ∷ [])) found)) (sym top.found) moved)
        (below_stand rest levels uses have.1 (omega (arith, deep)))

  -- the elements of the records of a tree are the cells of the tree as they stand, in order
  pub elements_for : (tree : NamedTree) (root : CellExt) → HasTreeRecords raw exts tree → ext_of exts (own_body tree).name ≡ Some root
      → depth_of tree ≤ LONGEST_CHAIN → AreOneForOne (IsElementFor raw exts) (named_standings tree) (elements_of exts root)
  elements_for tree root has found deep =
      AreOneForOne-weaker (StandsBehind raw exts []) (IsElementFor raw exts) (λ standing element stands. record {
        ids = ap (map (λ (used : UseRec). used.id)) stands.uses_are ∙ stands.ids;
        moves = λ square. ap (λ (uses : List UseRec). placed uses square) stands.uses_are ∙ stands.moves square;
        found = stands.found;
        tree = stands.tree;
        own = stands.own;
        is = stands.is;
      }) (named_standings tree) (elements_of exts root) (elements_stand tree LONGEST_CHAIN [] root has found deep)
