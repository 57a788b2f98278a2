-- Names above a step, by the groups that are kept.
use Rattle.tile_members.proofs.Common.{◌≡◌, ℕ, List, [], ◌∷◌, Vec, Global, Some, sym, ap, ◌∙◌, IfOk-weaker, ArrayExt, MergeRec, CellKey, path_text}
use Rattle.tile_members.proofs.Common.{plain, Table, ext_of, first_member, kept_in}
use Rattle.std.proofs.Common.{Result}
use Rattle.std.specs.Prelude.{IfOk}
use Rattle.std.specs.declared.alloc.AllocError.{AllocError}
use Rattle.tile_members.specs.steps.MemberNames.{AreMergesOf}

-- the path of the first member, by merges that are kept, is that by the record that is kept
pub path_above : (table : Table) (child : CellKey) (merges : List MergeRec) (id below given first : List ℕ) (made : Result (Vec ℕ Global) AllocError)
    → AreMergesOf (kept_in table) child.0 merges → given ≡ id → first ≡ first_member merges below
    → IfOk made (λ path. path.items ≡ path_text (given ∷ []) first)
    → IfOk made (λ name. (ext : ArrayExt) → ext_of table child ≡ Some ext → name.items ≡ path_text (id ∷ []) (first_member (plain ext).merges below))
path_above table child merges id below given first made are same is named =
    IfOk-weaker made (λ (path : Vec ℕ Global). path.items ≡ path_text (given ∷ []) first)
    (λ (name : Vec ℕ Global). (ext : ArrayExt) → ext_of table child ≡ Some ext → name.items ≡ path_text (id ∷ []) (first_member (plain ext).merges below))
    (λ path at ext kept.
    let one : Some are.ext ≡ Some ext = sym are.is_kept ∙ kept in
    let record_is : are.ext ≡ ext = cc in
    at ∙ ap (λ (i : List ℕ). path_text (i ∷ []) first) same
    ∙ ap (path_text (id ∷ [])) (is ∙ ap (λ (ms : List MergeRec). first_member ms below) (are.are ∙ ap (λ (e : ArrayExt). (plain e).merges) record_is))) named
