-- A technology as far as the lines of its text were read.
use Rattle.std.specs.Prelude.{ℕ, List, []}
use Rattle.tech_model.specs.declared.raw.LayerId.{LayerId}
use Rattle.tech_model.specs.declared.raw.TypeId.{TypeId}
use Rattle.tech_model.specs.declared.raw.RawTech.{RawTech}

-- The lists so far, and what later lines are held to.
pub record Drafted : Type 0 where
  -- the lists, but for the sets of contacts' images
  pub raw : RawTech
  -- each contact's layer with each of its residues
  pub residues : List (LayerId × TypeId)
  -- the types that `compose` lines used as parts
  pub used : List TypeId
  -- the types that `compose` lines made
  pub results : List TypeId
  -- the numbers of the classes that have a `cap` line, from 0
  pub capped : List ℕ

abbrev pub empty_raw : RawTech
empty_raw = record { name = []; planes = []; layers = []; types = []; pairs = []; classes = []; fets = [] }

-- nothing was read yet
abbrev pub empty_draft : Drafted
empty_draft = record { raw = empty_raw; residues = []; used = []; results = []; capped = [] }
