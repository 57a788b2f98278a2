-- The pieces that tiles make, one plane after another.
use Rattle.drc_check.proofs.Common.{◌≡◌, ◌+◌, ◌<◌, ◌≤◌, inl, inr, ℕ, Bool, false, List, ◌++◌, length, sym, ap, ◌∙◌, arith, true≢false, All, list_any}
use Rattle.drc_check.proofs.Common.{append_assoc, In-append_cases, RawTech, TypeId, Place, PartTile, Rule, IsLawfulRule, ListedPiece, has_plane}
use Rattle.drc_check.proofs.Common.{IsListedType, IsMarkedType, set_of_all, AddsListed, AddsMadePieces, IsListedAt}
use Rattle.std.proofs.lemmas.Bool.{cases_lt}
use Rattle.drc_check.specs.steps.Pieces.{AddsOfPlane, IsMarkedTypeOn}
use Rattle.drc_check.proofs.ListedLaws.{listed_is_material, listed_plane, listed_plane_named}
use Rattle.drc_check.proofs.PieceLaws.{pieces_for, pieces_joined}

-- rules list the type, as one of the place's plane, which is below this one
abbrev pub IsListedBelow : List Rule → ℕ → Place → TypeId → Type 0
IsListedBelow rules plane place kind = (place.plane < plane) × IsListedAt rules place kind

module _ (raw : RawTech) (rules : List Rule) (lawful : All (IsLawfulRule raw) rules) (tiles : List PartTile) where
  -- the pieces of a plane that rules name are added
  pub plane_added : (marks : List Bool) → ((plane : ℕ) (kind : TypeId) → IsListedType rules plane kind → IsMarkedType marks kind.0) → (plane : ℕ)
      (old between new : List ListedPiece) → AddsMadePieces raw tiles (IsListedBelow rules plane) old between
      → AddsOfPlane raw marks tiles plane between new → AddsMadePieces raw tiles (IsListedBelow rules (plane + 1)) old new
  plane_added marks marked plane old between new before here = record {
    found = before.found ++ here.found;
    is = here.is ∙ ap (λ (l : List ListedPiece). l ++ here.found) before.is ∙ append_assoc old before.found here.found;
    are = pieces_joined raw (set_of_all raw tiles) (IsListedBelow rules plane) (IsMarkedTypeOn marks plane) (IsListedBelow rules (plane + 1)) before.found
        here.found
        (λ place kind wanted.
        let under = wanted.0 in
        elim (cases_lt place.plane plane) [
          | inl below ↦ inl (below, wanted.1)
          | inr over ↦ inr (omega arith, marked place.plane kind wanted.1, listed_is_material raw rules lawful place.plane kind wanted.1)
        ]) before.are here.are;
    lie = λ piece among. elim (In-append_cases piece before.found here.found among) [
      | inl earlier ↦ before.lie piece earlier
      | inr last ↦ here.lie piece last
    ];
  }

  -- a plane that they don't name has none
  pub plane_left_out : (plane : ℕ) (old new : List ListedPiece) → list_any (has_plane plane) rules ≡ false
      → AddsMadePieces raw tiles (IsListedBelow rules plane) old new → AddsMadePieces raw tiles (IsListedBelow rules (plane + 1)) old new
  plane_left_out plane old new unnamed before = record {
    found = before.found;
    is = before.is;
    are = pieces_for raw (set_of_all raw tiles) (IsListedBelow rules plane) (IsListedBelow rules (plane + 1)) before.found
        (λ place kind wanted.
        let under = wanted.0 in
        elim (cases_lt place.plane plane) [
          | inl below ↦ (below, wanted.1)
          | inr over ↦
              let same : place.plane ≡ plane = omega arith in
              absurd (true≢false (sym (listed_plane_named rules place.plane kind wanted.1)
              ∙ ap (λ (p : ℕ). list_any (has_plane p) rules) same ∙ unnamed))
        ]) before.are;
    lie = before.lie;
  }

  -- the pieces of all planes are all
  pub all_planes : (plane : ℕ) (old new : List ListedPiece) → length raw.planes ≤ plane → AddsMadePieces raw tiles (IsListedBelow rules plane) old new
      → AddsListed raw rules tiles old new
  all_planes plane old new past before = record {
    found = before.found;
    is = before.is;
    are = pieces_for raw (set_of_all raw tiles) (IsListedBelow rules plane) (IsListedAt rules) before.found
        (λ place kind listed. let below = listed_plane raw rules lawful place.plane kind listed in (omega arith, listed)) before.are;
    lie = before.lie;
  }
