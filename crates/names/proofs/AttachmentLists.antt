-- Where labels attach, one after another.
use Rattle.names.proofs.Common.{◌≡◌, ◌<◌, ◌+◌, ℕ, Bool, true, false, Option, Some, None, List, [], ◌∷◌, ◌++◌, length, get_or, inl, inr, arith, refl}
use Rattle.names.proofs.Common.{sym, subst, ◌∙◌, ap, All, IfSome, IsPermutation, option_map, cases_eq, cases_lt, false≢true, get_or_append_left}
use Rattle.names.proofs.Common.{get_or_push, get_or_past, get_or_default, length_push, none-some, same_Some, In, In-get_or, In-index, is_naming_text}
use Rattle.names.proofs.Common.{no_tile, region_found, text_at, IsNamed, AreCounted, AreFirstTiles, Label, RawTech, RegionTile, Attachment, label_at}
use Rattle.names.proofs.Common.{no_label, IsAttachment, found_at}
use Rattle.flood_nodes.specs.SoundTiles.{IsSoundTile}
use Rattle.names.specs.steps.TakenLabels.{AreAttachments}
use Rattle.names.proofs.AttachLaws.{attachment_moved}

module _ (raw : RawTech) (tiles : List RegionTile) (labels : List Label) where
  -- It is known where the first labels attach.
  pub record HasAttachments (n : ℕ) (found : List (Option Attachment)) : Type 0 where
    pub so_many : length found ≡ n
    pub each : (k : ℕ) → k < n → IsAttachment raw tiles (label_at labels k) (found_at found k)

  -- one more label
  pub attachments_more : (n : ℕ) (found new : List (Option Attachment)) (one : Option Attachment) → IsAttachment raw tiles (label_at labels n) one
      → new ≡ found ++ one ∷ [] → HasAttachments n found → HasAttachments (n + 1) new
  attachments_more n found new one is added has =
      let many = has.so_many in
      subst (HasAttachments (n + 1)) (sym added) (record {
        so_many = length_push found one ∙ ap (λ (k : ℕ). k + 1) many;
        each = λ k below. elim (cases_eq k n) [
          | inl at ↦ subst (IsAttachment raw tiles (label_at labels k)) (sym (get_or_push found one None k (many ∙ sym at)))
              (subst (λ (i : ℕ). IsAttachment raw tiles (label_at labels i) one) (sym at) is)
          | inr other ↦ subst (IsAttachment raw tiles (label_at labels k)) (sym (get_or_append_left found (one ∷ []) None k (omega arith)))
              (has.each k (omega arith))
        ];
      })

  -- all labels
  pub attachments_all : (n : ℕ) (found : List (Option Attachment)) → n ≡ length labels → HasAttachments n found → AreAttachments raw tiles labels found
  attachments_all n found all has =
      let many = has.so_many in
      record {
        so_many = many ∙ all;
        each = λ k. elim (cases_lt k n) [
          | inl below ↦ has.each k below
          | inr past ↦ rw (get_or_past labels k no_label (omega arith), get_or_past found k None (omega (arith, past, many)))
              (record { names = λ names. absurd (false≢true names); nameless = λ nameless. refl })
        ];
      }

-- the same attachments, among the tiles in another order
pub attachments_moved : (raw : RawTech) (tiles sorted : List RegionTile) (labels : List Label) (found : List (Option Attachment)) → IsPermutation tiles sorted
    → AreAttachments raw sorted labels found → AreAttachments raw tiles labels found
attachments_moved raw tiles sorted labels found moved are = record {
  so_many = are.so_many;
  each = λ k. attachment_moved raw tiles sorted (label_at labels k) (found_at found k) moved (are.each k);
}

-- a label that is found is found in a region of a tile
found_in_tile : (raw : RawTech) (tiles : List RegionTile) (label : Label) (found : Attachment) → IsAttachment raw tiles label (Some found)
    → (tile : RegionTile) × (In tile tiles × (found.region ≡ tile.region))
found_in_tile raw tiles label found is = by_names (is_naming_text label.text) refl
  where
    by_names : (names : Bool) → is_naming_text label.text ≡ names → (tile : RegionTile) × (In tile tiles × (found.region ≡ tile.region))
    by_names false fails = absurd (none-some found (sym (is.nameless fails)))
    by_names true names = let least = is.names names in (least.tile, (least.seen, ap (λ (a : Attachment). a.region) least.is))

module _ (raw : RawTech) (tiles : List RegionTile) (labels : List Label) (found : List (Option Attachment)) (count : ℕ)
    (sound : All (IsSoundTile count) tiles) (are : AreAttachments raw tiles labels found) where
  below_by : (label : Label) (here : Option Attachment) (region : ℕ) → IsAttachment raw tiles label here
      → option_map (λ (a : Attachment). a.region) here ≡ Some region → region < count
  below_by label None region is none = absurd (none-some region none)
  below_by label (Some a) region is same =
      let on = found_in_tile raw tiles label a is in
      let at = In-index on.0 tiles on.1.0 in
      let numbered : on.0.region < count = subst (λ (t : RegionTile). t.region < count) (at.1.1 no_tile) (sound at.0 no_tile at.1.0).numbered in
      subst (λ (r : ℕ). r < count) (sym on.1.1 ∙ same_Some a.region region same) numbered

  -- the regions that labels attach to are below their number
  pub found_below : (index region : ℕ) → region_found found index ≡ Some region → region < count
  found_below index region same = below_by (label_at labels index) (found_at found index) region (are.each index) same

  module _ (named : List (Option ℕ)) (pairs : List (ℕ × ℕ)) (counted : AreCounted (text_at labels) (region_found found) (length labels) named pairs) where
    -- and so are those of pairs
    pub pairs_below : All (λ pair. (pair.0 < count) × (pair.1 < count)) pairs
    pairs_below k d less =
        let pair = get_or pairs k d in
        let share = counted.sound pair.0 pair.1 (In-get_or pairs k d less) in
        (found_below share.one pair.0 share.here, found_below share.other pair.1 share.there)

    named_by : (index m : ℕ) (value : Option ℕ) → m ≡ count → IsNamed (text_at labels) (region_found found) index value → IfSome value (λ r. r < m)
    named_by index m None same is = tt
    named_by index m (Some region) same is = let below = found_below index region is.0 in omega (arith, same, below)

    -- and those that labels name
    pub named_below : (m : ℕ) → m ≡ count → All (λ region. IfSome region (λ r. r < m)) named
    named_below m same k d less =
        let many = counted.so_many in
        subst (λ (v : Option ℕ). IfSome v (λ r. r < m)) (get_or_default named k None d less)
        (named_by k m (get_or named k None) same (counted.each k (omega (arith, many, less))))

-- what holds of each tile holds of the first of each class
pub firsts_have : (P : RegionTile → Type 0) (classes : List ℕ) (tiles firsts : List RegionTile) → AreFirstTiles classes (λ tile. In tile tiles) firsts
    → All P tiles → All P firsts
firsts_have P classes tiles firsts are all k d less =
    let tile = get_or firsts k d in
    let at = In-index tile tiles (are.sound tile (In-get_or firsts k d less)).among in
    subst P (at.1.1 d) (all at.0 d at.1.0)
