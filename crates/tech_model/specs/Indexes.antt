-- What the indexes beside the lists of a technology keep.
use Rattle.std.specs.Prelude.{◌≡◌, ℕ, List}
use Rattle.tech_model.specs.declared.raw.RawTech.{RawTech}
use Rattle.tech_model.specs.LayerWords.{layer_in}
use Rattle.tech_model.specs.PairTables.{HasPairs}
use Rattle.tech_model.specs.Types.{layer_named}
use Rattle.tech_model.specs.WellFormed.{IsWellFormed}

-- The lists fit together, the words name the layers, and the table has the pairs.
pub record IsIndexed (raw : RawTech) (words : List (List ℕ × ℕ)) (rows : List ℕ) : Type 0 where
  pub well_formed : IsWellFormed raw
  pub named : (word : List ℕ) → layer_in words word ≡ layer_named raw word
  pub paired : HasPairs rows raw.pairs
