-- What the paths of lawful records are held to.
use Rattle.std.specs.Prelude.{◌≡◌, ◌<◌, ℕ, List}
use Rattle.geo_core.specs.FiniteSets.Lists.{In}
use Rattle.ext_model.specs.declared.records.CellExt.{CellExt}
use Rattle.ext_model.specs.NodeNames.{slashes_in}
use Rattle.ext_model.specs.RecordNames.{node_names}
use Rattle.ext_model.specs.Lawful.{LeadsIntoElement, IsPathIn, IsLawful}

-- a path without a slash is a name of a node of the record
abbrev pub PathsWithoutSlashNameNodes : Type 0
PathsWithoutSlashNameNodes = (ext : CellExt) (path : List ℕ) → IsPathIn ext path → slashes_in path ≡ 0 → In path (node_names ext)

-- a path with a slash begins with the name of an element of the record
abbrev pub PathsWithSlashLeadIntoElements : Type 0
PathsWithSlashLeadIntoElements =
    (ext : CellExt) (path : List ℕ) → IsLawful ext → IsPathIn ext path → 0 < slashes_in path → LeadsIntoElement ext path
