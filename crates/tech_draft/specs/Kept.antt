-- What every draft keeps.
use Rattle.std.specs.Prelude.{◌≡◌, ◌≤◌, ◌<◌, ℕ, List, length, All}
use Rattle.tech_model.specs.declared.raw.RawTech.{RawTech}
use Rattle.tech_model.specs.LayerWords.{layer_in}
use Rattle.tech_model.specs.Types.{layer_named}
use Rattle.tech_model.specs.declared.limits.TheConstants.{MOST_PLANES, MOST_TYPES}
use Rattle.tech_draft.specs.declared.draft.Draft.TheInside.{Inside}
use Rattle.tech_draft.specs.Drafts.{Drafted}

-- the lists of a draft's fields
abbrev pub draft_of : Inside → Drafted
draft_of inside = record {
  raw = record {
    name = inside.name;
    planes = inside.planes.items;
    layers = inside.layers.items;
    types = inside.types.items;
    pairs = inside.pairs;
    classes = inside.classes.items;
    fets = inside.fets.items;
  };
  residues = inside.residues.items;
  used = inside.used.items;
  results = inside.results.items;
  capped = inside.capped.items;
}

-- the tables keep their limits
pub record HasRoom (raw : RawTech) : Type 0 where
  pub planes_limit : length raw.planes ≤ MOST_PLANES
  pub types_limit : length raw.types ≤ MOST_TYPES
  pub layers_limit : length raw.layers ≤ length raw.types

-- The index has the names of the layers, the tables keep their limits, and so do the layers of residues.
pub record IsKept (inside : Inside) : Type 0 where
  pub indexed : (word : List ℕ) → layer_in inside.index word ≡ layer_named (draft_of inside).raw word
  pub room : HasRoom (draft_of inside).raw
  pub marked : All (λ pair. pair.0.0 < MOST_TYPES) (draft_of inside).residues
