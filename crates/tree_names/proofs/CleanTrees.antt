-- What stands below a clean tree is clean.
use Rattle.tree_names.proofs.Common.{RawTech, Transform, ℕ, List, AreTyped, AreClean, NamedTree, NamedElements, OwnBody, layouts_below, named_tree}
use Rattle.tree_names.proofs.Common.{element_then, HaveElementNames, IsCleanTree}

-- The tree of each element is clean.
pub record AreCleanTrees (raw : RawTech) (elements : NamedElements) : Type 0 where
  pub typed : AreTyped raw (layouts_below elements)
  pub clean : AreClean raw (layouts_below elements)
  pub names : HaveElementNames elements

-- the elements of a clean tree
pub clean_below : (raw : RawTech) (own : OwnBody) (elements : NamedElements) → IsCleanTree raw (named_tree own elements)
    → AreCleanTrees raw elements
clean_below raw own elements is = record { typed = is.typed.1; clean = is.clean.0; names = is.names.1 }

-- the first element
pub clean_first : (raw : RawTech) (id : List ℕ) (placed : Transform) (tree : NamedTree) (rest : NamedElements)
    → AreCleanTrees raw (element_then id placed tree rest) → IsCleanTree raw tree
clean_first raw id placed tree rest are = record { typed = are.typed.0; clean = are.clean.0; names = are.names.1 }

-- and those behind it
pub clean_rest : (raw : RawTech) (id : List ℕ) (placed : Transform) (tree : NamedTree) (rest : NamedElements)
    → AreCleanTrees raw (element_then id placed tree rest) → AreCleanTrees raw rest
clean_rest raw id placed tree rest are = record { typed = are.typed.1; clean = are.clean.1; names = are.names.2 }
