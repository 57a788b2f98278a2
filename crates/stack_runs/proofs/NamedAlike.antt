-- The vectors of a stack for names that are alike, and that they fit the network.
use Rattle.std.proofs.Common.{◌≡◌, ◌<◌, ℕ, zero, suc, List, [], ◌∷◌, ◌++◌, inl, inr, refl}
use Rattle.std.specs.Prelude.{All, Option, Some, None, IfSome}
use Rattle.std.specs.Option.{option_map_or}
use Rattle.std.specs.Str.{bytes_eq}
use Rattle.std.proofs.lemmas.Bool.{cases_Bool}
use Rattle.std.proofs.lemmas.List.Elements.{All-nil, All-cons, All-append}
use Rattle.switch_net.specs.declared.switches.Level.{Level}
use Rattle.switch_net.specs.declared.switches.Level.TheVariants.{Zero, One}
use Rattle.switch_net.specs.Names.{NameNodesBelow}
use Rattle.vector_files.specs.declared.files.VecLine.{VecLine}
use Rattle.vector_files.specs.declared.files.VecLine.TheVariants.{Set, Phase}
use Rattle.vector_files.specs.LineForms.{node_named}
use Rattle.vector_files.specs.NodeLookup.{IsLikeNamed}
use Rattle.vector_runs.specs.Running.{FitsNodes}
use Rattle.stack_runs.specs.StackVectors.{column_lines, column_name, lines_below, row_lines, row_name, set_named, stack_vectors}

-- names that are alike have the same vectors
pub same_vectors : (known named : List (List ℕ × ℕ)) → IsLikeNamed known named → (n : ℕ) → stack_vectors known n ≡ stack_vectors named n
same_vectors known named like n = λ k. record {
  lines = lines_below (λ j. option_map_or (λ v. (0, Set v One) ∷ []) (like.nodes (row_name j) k) []) n
      ++ lines_below (λ i. option_map_or (λ v. (0, Set v Zero) ∷ []) (like.nodes (column_name i) k) []) n
      ++ (0, Phase) ∷ [];
}

-- the node of a name is one of the network's
named_below : (nodes : ℕ) (names : List (List ℕ × ℕ)) (name : List ℕ) → NameNodesBelow nodes names
    → IfSome (node_named names name) (λ v. v < nodes)
named_below nodes [] name below = tt
named_below nodes (x ∷ names) name below = elim (cases_Bool (bytes_eq x.0 name)) [
  | inl same ↦ rw same (below x.0 x.1 (inl refl))
  | inr other ↦ rw other (named_below nodes names name (λ n v h. below n v (inr h)))
]

module _ (nodes : ℕ) where
  abbrev Fits : ℕ × VecLine → Type 0
  Fits line = FitsNodes nodes line.1

  set_fits : (level : Level) (found : Option ℕ) → IfSome found (λ v. v < nodes) → All Fits (option_map_or (λ v. (0, Set v level) ∷ []) found [])
  set_fits level None below = All-nil Fits
  set_fits level (Some v) below = All-cons Fits (0, Set v level) [] below (All-nil Fits)

  below_fit : (lines : ℕ → List (ℕ × VecLine)) → ((j : ℕ) → All Fits (lines j)) → (n : ℕ) → All Fits (lines_below lines n)
  below_fit lines fit zero = All-nil Fits
  below_fit lines fit (suc n) = All-append Fits (lines_below lines n) (lines n) (below_fit lines fit n) (fit n)

  -- the vectors fit the network
  pub vectors_fit : (names : List (List ℕ × ℕ)) → NameNodesBelow nodes names → (n : ℕ)
      → All (λ line. FitsNodes nodes line.1) (stack_vectors names n).lines
  vectors_fit names below n =
      let rows = below_fit (λ j. set_named names One (row_name j))
      (λ j. set_fits One (node_named names (row_name j)) (named_below nodes names (row_name j) below)) n in
      let columns = below_fit (λ i. set_named names Zero (column_name i))
      (λ i. set_fits Zero (node_named names (column_name i)) (named_below nodes names (column_name i) below)) n in
      let last = All-cons Fits (0, Phase) [] tt (All-nil Fits) in
      All-append Fits (row_lines names n ++ column_lines names n) ((0, Phase) ∷ [])
      (All-append Fits (row_lines names n) (column_lines names n) rows columns) last
