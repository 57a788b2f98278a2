-- What the walk, the chains and the sizes tell of the plain records.
use Rattle.plain_records.proofs.Common.{◌≡◌, ℕ, ◌<◌, ◌≤◌, List, length, get_or, sym, ◌∙◌, ap, subst, arith, Option, Some, None, slice_get, option_or}
use Rattle.plain_records.proofs.Common.{length-map, slice_get-map_source, slice_get-map_there, CellExt, ArrayExt, plain, FlatFault, TooMany, Depth}
use Rattle.plain_records.proofs.Common.{Elements, LONGEST_CHAIN, MOST_FLAT_ELEMENTS, walk_fault, RecordGraph, value_at, chain_from, size_from}
use Rattle.plain_records.proofs.Common.{AreMeasuredIn, plains, AreArrayRecords, thin, thins, spreads, spread_graph}
use Rattle.flat_limits.specs.ElementTree.Graphs.{IsGraphOf, HasNoWalkFault, IsWalkFaultOf}
use Rattle.flat_limits.specs.ElementTree.Trees.{tree_fault, IsTreeFaultOf}
use Rattle.flat_limits.proofs.ElementTree.Counting.{number_read, depth_fault, elements_fault, no_tree_fault}
use Rattle.plain_records.specs.Reached.{AreReached, HasNoReachFault, IsReachFaultOf}
use Rattle.plain_records.proofs.WalkLaws.{walk-thin}
use Rattle.plain_records.proofs.GraphLaws.{graph-spread, chains-spread}

module _ (exts : List ArrayExt) (slim : List CellExt) (are_thin : slim ≡ thins exts) (root : ℕ) where
  -- what the walk over thin records tells is told of the plain ones
  walk_told : (told : Option FlatFault) → ((top : CellExt) → slice_get slim root ≡ Some top → walk_fault slim top ≡ told) → (top : CellExt)
      → slice_get (plains exts) root ≡ Some top → walk_fault (plains exts) top ≡ told
  walk_told told walked top at =
      let made = slice_get-map_source plain exts root top at in
      let there : slice_get slim root ≡ Some (thin made.0) =
      ap (λ l. slice_get l root) are_thin ∙ slice_get-map_there thin exts root made.0 made.1.0 in
      ap (walk_fault (plains exts)) (sym made.1.1) ∙ sym (walk-thin exts made.0) ∙ ap (λ l. walk_fault l (thin made.0)) (sym are_thin)
      ∙ walked (thin made.0) there

  -- a fault of the walk is the fault
  pub walk_is : (fault : FlatFault) → IsWalkFaultOf slim root fault → IsReachFaultOf (plains exts) root fault
  walk_is fault walked top at = ap (λ o. option_or o (tree_fault (plains exts) top)) (walk_told (Some fault) walked top at)

  module _ (are : AreArrayRecords exts) (within : root < length exts) (graph : RecordGraph) (is : IsGraphOf slim root graph)
      (sound : HasNoWalkFault slim root) (lengths : List ℕ) (chains : AreMeasuredIn chain_from graph lengths) (length_ : ℕ)
      (read : length_ ≡ get_or lengths root length_) where
    thin_graph : IsGraphOf (thins exts) root graph
    thin_graph = subst (λ l. IsGraphOf l root graph) are_thin is

    plain_graph : IsGraphOf (plains exts) root (spread_graph exts graph)
    plain_graph = graph-spread exts are.cells_differ root graph thin_graph

    plain_chains : AreMeasuredIn chain_from (spread_graph exts graph) lengths
    plain_chains = chains-spread exts root graph lengths thin_graph chains

    inside : root < length (plains exts)
    inside = omega (arith, within, length-map exts plain)

    length_is : length_ ≡ value_at lengths root
    length_is = number_read (plains exts) root (spread_graph exts graph) chain_from lengths length_ inside plain_graph plain_chains read

    tree_is : (fault : FlatFault) → IsTreeFaultOf (plains exts) root fault → IsReachFaultOf (plains exts) root fault
    tree_is fault told top at = ap (λ o. option_or o (tree_fault (plains exts) top)) (walk_told None sound top at) ∙ told top at

    -- the records of the order are reached
    pub are_reached : AreReached (plains exts) root graph.order
    are_reached = record { children = spreads exts graph.children; is = plain_graph }

    -- a chain that is too long is the fault
    pub deep_is : LONGEST_CHAIN < length_ → IsReachFaultOf (plains exts) root (TooMany Depth)
    deep_is deep = tree_is (TooMany Depth)
        (depth_fault (plains exts) root (spread_graph exts graph) lengths plain_graph plain_chains (omega (arith, deep, length_is)))

    module _ (sizes : List ℕ) (sized : AreMeasuredIn size_from (spread_graph exts graph) sizes) where
      -- the root has a size
      pub size_there : root < length sizes
      size_there = let long = sized.long in let lists = plain_graph.long in omega (arith, inside, long, lists)

      module _ (size : ℕ) (read_size : size ≡ get_or sizes root size) (short : length_ ≤ LONGEST_CHAIN) where
        size_is : size ≡ value_at sizes root
        size_is = number_read (plains exts) root (spread_graph exts graph) size_from sizes size inside plain_graph sized read_size

        -- too many elements are the fault
        pub many_is : MOST_FLAT_ELEMENTS < size → IsReachFaultOf (plains exts) root (TooMany Elements)
        many_is many = tree_is (TooMany Elements)
            (elements_fault (plains exts) root (spread_graph exts graph) lengths plain_graph plain_chains sizes sized
            (omega (arith, short, length_is)) (omega (arith, many, size_is)))

        -- else there is none
        pub none_is : size ≤ MOST_FLAT_ELEMENTS → HasNoReachFault (plains exts) root
        none_is few top at =
            ap (λ o. option_or o (tree_fault (plains exts) top)) (walk_told None sound top at)
            ∙ no_tree_fault (plains exts) root (spread_graph exts graph) lengths plain_graph plain_chains sizes sized
            (omega (arith, short, length_is)) (omega (arith, few, size_is)) top at
