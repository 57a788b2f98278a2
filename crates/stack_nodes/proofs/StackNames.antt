-- A node of the tile has its name in each tile of a stack, behind the names of the row and of the tile.
use Rattle.stack_nodes.proofs.Common.{◌≡◌, ◌<◌, ◌∙◌, ℕ, pos, Bool, false, List, [], ◌∷◌, length, refl, sym, ap, subst, inl, inr, Some, codes, stay}
use Rattle.stack_nodes.proofs.Common.{identity, RawTech, HaveOwnSets, IsWellFormed, IsMaterial, Place, indexed_name, is_global, slashes_in, row_grid}
use Rattle.stack_nodes.proofs.Common.{stack_grid, tile_name, use_elements, HasNodePath, HasNodePathBelow, HasOwnName, flat_layout}
use Rattle.std.proofs.Common.{cond, ◌++◌, append_assoc}
use Rattle.ext_model.specs.Paths.{full_name, path_text}
use Rattle.ext_model.specs.TextScan.Decimal.{decimal, natural_text}
use Rattle.ext_model.proofs.PathNames.{last_name-path_text}
use Rattle.library_trees.specs.TreeRecords.FlatLayouts.{IsFlatName}
use Rattle.library_trees.specs.TreeRecords.NamedTrees.{named_elements_in}
use Rattle.stack_runs.specs.StackVectors.{column_name, row_name}
use Rattle.stack_nodes.proofs.Arrays.{path_through}
use Rattle.stack_nodes.proofs.StackElements.{in_row, in_stack, row_back, row_element, row_named, row_there, tile_back, tile_element, tile_named, tile_there}
use Rattle.stack_nodes.proofs.StackSets.{stack_material}
use Rattle.stack_nodes.proofs.StackTrees.{row_tree, stack_tree, tile_tree}
use Rattle.stack_nodes.proofs.TileNodes.{tile_body}
use Rattle.stack_nodes.proofs.TilePaint.{paint_in_tile}

-- ---- the names

-- the name of a node of the tile in this column of this row
abbrev pub tile_path : ℕ → ℕ → List ℕ → List ℕ
tile_path i j name = path_text (indexed_name (codes "r") (pos 0) (pos j) ∷ indexed_name (codes "t") (pos i) (pos 0) ∷ []) name

zero_text : decimal (pos 0) ≡ codes "0"
unfolding decimal natural_text
zero_text = refl

row_text : (zero row : List ℕ) → zero ≡ codes "0"
    → path_text ((codes "r" ++ 91 ∷ (zero ++ 44 ∷ (row ++ 93 ∷ []))) ∷ (codes "t" ++ 91 ∷ (zero ++ 44 ∷ (zero ++ 93 ∷ []))) ∷ []) (codes "w")
    ≡ codes "r[0," ++ row ++ codes "]/t[0,0]/w"
row_text zero row is =
    ap (λ (z : List ℕ). path_text ((codes "r" ++ 91 ∷ (z ++ 44 ∷ (row ++ 93 ∷ []))) ∷ (codes "t" ++ 91 ∷ (z ++ 44 ∷ (z ++ 93 ∷ []))) ∷ []) (codes "w")) is
    ∙ ap (λ (rest : List ℕ). codes "r[0," ++ rest) (append_assoc row (93 ∷ []) (codes "/t[0,0]/w"))

-- a row is named by the poly of its first tile
pub row_name_is : (j : ℕ) → tile_path 0 j (codes "w") ≡ row_name j
row_name_is j = row_text (decimal (pos 0)) (decimal (pos j)) zero_text

column_text : (zero column : List ℕ) → zero ≡ codes "0"
    → path_text ((codes "r" ++ 91 ∷ (zero ++ 44 ∷ (zero ++ 93 ∷ []))) ∷ (codes "t" ++ 91 ∷ (column ++ 44 ∷ (zero ++ 93 ∷ []))) ∷ []) (codes "b")
    ≡ codes "r[0,0]/t[" ++ column ++ codes ",0]/b"
column_text zero column is =
    ap (λ (z : List ℕ). path_text ((codes "r" ++ 91 ∷ (z ++ 44 ∷ (z ++ 93 ∷ []))) ∷ (codes "t" ++ 91 ∷ (column ++ 44 ∷ (z ++ 93 ∷ []))) ∷ []) (codes "b")) is
    ∙ ap (λ (rest : List ℕ). codes "r[0,0]/t[" ++ rest) (append_assoc column (codes ",0]") (codes "/b"))

-- a column by the diffusion of its lowest tile
pub column_name_is : (i : ℕ) → tile_path i 0 (codes "b") ≡ column_name i
column_name_is i = column_text (decimal (pos 0)) (decimal (pos i)) zero_text

-- a path to a name that isn't global is a full name
path_is_full : (ids : List (List ℕ)) (name : List ℕ) → slashes_in name ≡ 0 → is_global name ≡ false
    → path_text ids name ≡ full_name [] (path_text ids name)
path_is_full ids name whole local =
    sym (ap (λ (last : List ℕ). cond (is_global last) last (path_text ids name)) (last_name-path_text ids name whole)
    ∙ ap (λ (global : Bool). cond global name (path_text ids name)) local)

-- ---- the nodes

module _ (raw : RawTech) (w : IsWellFormed raw) (own_sets : HaveOwnSets raw) (poly diff n count : ℕ) (poly_below : poly < length raw.layers)
    (diff_below : diff < length raw.layers) where
  -- The stack has material at a place of a flat node with the name.
  pub record HasFlatName (name : List ℕ) : Type 0 where
    pub place : Place
    pub material : IsMaterial (flat_layout raw (stack_tree raw poly diff n count)) place
    pub named : IsFlatName raw (stack_tree raw poly diff n count) place name

  module _ (i j : ℕ) (i_below : i < n) (j_below : j < n) (name : List ℕ) (place : Place)
      (own : HasOwnName raw (tile_body count tile_name raw poly diff) place name) where
    -- the path to the node in the row
    path_in_row : HasNodePath raw (row_tree raw poly diff n count) (in_row i place) (path_text (indexed_name (codes "t") (pos i) (pos 0) ∷ []) name)
    path_in_row =
        let tile = tile_tree raw poly diff n count in
        let there : HasNodePath raw tile place name = inl own in
        inr (subst (λ (id : List ℕ). HasNodePathBelow raw (named_elements_in (row_tree raw poly diff n count)) (in_row i place) (path_text (id ∷ []) name))
        (tile_named n i)
        (path_through raw tile identity (use_elements (codes "t") (Some (row_grid n))) (tile_element n i) (tile_there n i i_below) (in_row i place) name
        (subst (λ (p : Place). HasNodePath raw tile p name) (sym (tile_back n i place)) there)))

    -- and in the stack
    path_in_stack : HasNodePath raw (stack_tree raw poly diff n count) (in_stack j (in_row i place)) (tile_path i j name)
    path_in_stack =
        let row = row_tree raw poly diff n count in
        let inner = path_text (indexed_name (codes "t") (pos i) (pos 0) ∷ []) name in
        let above = in_stack j (in_row i place) in
        inr (subst (λ (id : List ℕ). HasNodePathBelow raw (named_elements_in (stack_tree raw poly diff n count)) above (path_text (id ∷ []) inner))
        (row_named n j)
        (path_through raw row identity (use_elements (codes "r") (Some (stack_grid n))) (row_element n j) (row_there n j j_below) above inner
        (subst (λ (p : Place). HasNodePath raw row p inner) (sym (row_back n j (in_row i place))) path_in_row)))

    -- so a node of the stack has the name
    pub named_in_stack : slashes_in name ≡ 0 → is_global name ≡ false → HasFlatName (tile_path i j name)
    named_in_stack whole local = record {
      place = in_stack j (in_row i place);
      material = stack_material raw poly diff n count w own_sets poly_below diff_below i j i_below j_below place
          (paint_in_tile raw poly diff place own.material) own.material;
      named = record {
        other = in_stack j (in_row i place);
        together = stay;
        path = tile_path i j name;
        has_path = path_in_stack;
        full = path_is_full (indexed_name (codes "r") (pos 0) (pos j) ∷ indexed_name (codes "t") (pos i) (pos 0) ∷ []) name whole local;
      };
    }
