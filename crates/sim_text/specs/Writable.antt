-- The circuits that a sim text can spell.
use Rattle.std.specs.Prelude.{◌≡◌, ℕ, ℤ, true, List, [], ◌∷◌, FitsSigned}
use Rattle.std.specs.Int.{w128}
use Rattle.std.specs.List.{AllByRecursion}
use Rattle.sim_text.specs.declared.files.SimFet.{SimFet}
use Rattle.sim_text.specs.declared.files.SimFile.{SimFile}
use Rattle.sim_text.specs.Parts.{is_sim_name, is_letter, is_within_edge}

-- four numbers of 128 bits
abbrev pub AreFour : List ℤ → Type 0
AreFour (l ∷ w ∷ x ∷ y ∷ []) = FitsSigned w128 l × FitsSigned w128 w × FitsSigned w128 x × FitsSigned w128 y
AreFour _ = ⊥

pub record IsWritableFet (fet : SimFet) : Type 0 where
  pub letter : is_letter fet.letter ≡ true
  pub gate : is_sim_name fet.gate ≡ true
  pub source : is_sim_name fet.source ≡ true
  pub drain : is_sim_name fet.drain ≡ true
  pub numbers : AreFour fet.numbers

pub record IsWritableCap (cap : List ℕ × ℤ) : Type 0 where
  pub node : is_sim_name cap.0 ≡ true
  pub within : is_within_edge cap.1 ≡ true

pub record IsWritableAlias (pair : List ℕ × List ℕ) : Type 0 where
  pub node : is_sim_name pair.0 ≡ true
  pub alias : is_sim_name pair.1 ≡ true

-- letters, names and numbers are those that a text can have
pub record IsWritable (sim : SimFile) : Type 0 where
  pub tech : is_sim_name sim.tech ≡ true
  pub fets : AllByRecursion IsWritableFet sim.fets
  pub caps : AllByRecursion IsWritableCap sim.caps
  pub aliases : AllByRecursion IsWritableAlias sim.aliases
