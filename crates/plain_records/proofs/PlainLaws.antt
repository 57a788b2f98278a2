-- The plain forms of the records of a tree.
use Rattle.plain_records.proofs.Common.{List, refl, sym, subst, Distinct, In-map_source, All-In, All-from_In, ArrayExt, IsLawfulArrayExt, plain}
use Rattle.plain_records.proofs.Common.{AreRecords, plains, AreArrayRecords}
use Rattle.std.specs.Prelude.{ℕ}
use Rattle.ext_model.specs.Lawful.{IsLawful}
use Rattle.plain_records.proofs.ThinLaws.{cells-form}

-- they are lawful, and no two are of one cell
pub plains_are_records : (exts : List ArrayExt) → AreArrayRecords exts → AreRecords (plains exts)
plains_are_records exts are = record {
  lawful = All-from_In IsLawful (plains exts) (λ one here.
      let made = In-map_source plain one exts here in
      subst IsLawful made.1.1 ((All-In IsLawfulArrayExt exts made.0 are.lawful made.1.0).plain));
  cells_differ = (let D : List (List ℕ) → Type 0 = Distinct in subst D (sym (cells-form plain (λ ext. refl) exts)) are.cells_differ);
}
