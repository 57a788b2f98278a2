-- The names of uses by their numbers.
use Rattle.std.specs.Prelude.{ℕ, Some, None, List, [], slice_get}
use Rattle.ext_model.specs.declared.records.UseRec.{UseRec}

-- the name of the element at a use, which is empty where there is no use
unfoldable pub id_at : List UseRec → ℕ → List ℕ
id_at uses at = elim (slice_get uses at) [ Some used ↦ used.id | None ↦ [] ]
