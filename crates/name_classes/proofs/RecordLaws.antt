-- The records of elements as they are read.
use Rattle.name_classes.proofs.Common.{◌≡◌, ◌<◌, ℕ, List, length, get_or, sym, ◌∙◌, ap, arith, Some, slice_get, slice_get_within, slice_get-get_or}
use Rattle.name_classes.proofs.Common.{CellExt, TreeElement, ElementTree, Resolver, IsResolver, HasRecord}
use Rattle.std.specs.Prelude.{pos}
use Rattle.ext_model.specs.GeoCore.declared.orients.Orient.TheVariants.{R0}
use Rattle.name_classes.proofs.TreeLaws.{element_at, record_of}

module _ (resolver : Resolver) (is : IsResolver resolver) (number : ℕ) (within : number < length resolver.tree.now.elements) (elements : List TreeElement)
    (same : elements ≡ resolver.tree.now.elements) (d : TreeElement) where
  -- the element with this number stands in the tree
  pub stands_read : slice_get resolver.names.now.tree.now.elements number ≡ Some (get_or elements number d)
  stands_read =
      let all : elements ≡ resolver.names.now.tree.now.elements = same ∙ ap (λ (tree : ElementTree). tree.elements) is.tree in
      let inside : number < length elements = omega (arith, within, ap (λ (list : List TreeElement). length list) same) in
      ap (λ (list : List TreeElement). slice_get list number) (sym all) ∙ slice_get-get_or elements number d inside

  pub cell_read : (get_or elements number d).cell < length resolver.exts.now
  cell_read =
      let flat = get_or elements number d in
      let element = element_at resolver.names.now is.names number flat stands_read in
      let record_ = record_of resolver.names.now is.names number element.0 flat element.1 in
      let below = slice_get_within resolver.names.now.exts.now flat.cell element.0.ext record_ in
      omega (arith, below, ap (λ (exts : List CellExt). length exts) is.exts)

  pub record_read : (e : CellExt) → HasRecord resolver.names.now number (get_or resolver.exts.now (get_or elements number d).cell e)
  record_read e = record {
    flat = get_or elements number d;
    stands = stands_read;
    record_ = ap (λ (exts : List CellExt). slice_get exts (get_or elements number d).cell) (sym is.exts)
        ∙ slice_get-get_or resolver.exts.now (get_or elements number d).cell e cell_read;
  }

-- what stands in the place of an element that is not there
abbrev pub no_element : TreeElement
no_element = record { cell = 0; parent = 0; at = 0; depth = 0; bytes = 0; rank = 0; to_root = record { orient = R0; dx = pos 0; dy = pos 0 } }
