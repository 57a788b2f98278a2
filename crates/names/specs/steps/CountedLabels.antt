-- Which labels name regions, and which regions global names join.
use Rattle.std.specs.Prelude.{◌≡◌, ◌≢◌, ◌⊎◌, ◌<◌, ℕ, Bool, true, false, List, [], ◌∷◌, ◌++◌, length, Option, Some, None, slice_index_or}
use Rattle.std.specs.Option.{option_map, unwrap_or}
use Rattle.partition.specs.Divides.{IsJoined, IsPair}
use Rattle.tech_model.specs.declared.raw.Label.{Label}
use Rattle.tech_model.specs.declared.raw.RawTech.{RawTech}
use Rattle.layout_model.specs.declared.region_tiles.RegionTile.{RegionTile}
use Rattle.ext_model.specs.NodeNames.{is_global}
use Rattle.names.specs.declared.attaching.Attachment.{Attachment}
use Rattle.names.specs.Attachments.{label_at}
use Rattle.names.specs.declared.counting.Counted.{Counted}
use Rattle.names.specs.steps.TakenLabels.{found_at, AreAttachments}

-- the region that the label at an index attaches to
abbrev pub region_found : List (Option Attachment) → ℕ → Option ℕ
region_found found index = option_map (λ attachment. attachment.region) (found_at found index)

abbrev pub text_at : List Label → ℕ → List ℕ
text_at labels index = (label_at labels index).text

-- the region that a label names, by whether its text is global, the region that the first label with this text attaches to, and its own
abbrev pub counted_region : Bool → Option ℕ → ℕ → Option ℕ
counted_region global None region = Some region
counted_region true (Some first) region = Some region
counted_region false (Some first) region = None

-- the pair of regions that a global name joins
abbrev pub joined_pair : Bool → Option ℕ → ℕ → List (ℕ × ℕ)
joined_pair global None region = []
joined_pair true (Some first) region = (first, region) ∷ []
joined_pair false (Some first) region = []

-- One more label was counted: what it names, the regions of first labels by their texts, and the pairs.
pub record IsCounted (text : List ℕ) (region : ℕ) (first later : List ℕ → Option ℕ) (old new : List (ℕ × ℕ)) (named : Option ℕ) : Type 0 where
  pub value : named ≡ counted_region (is_global text) (first text) region
  pub pairs : new ≡ old ++ joined_pair (is_global text) (first text) region
  pub here : later text ≡ Some (unwrap_or (first text) region)
  pub elsewhere : (other : List ℕ) → other ≢ text → later other ≡ first other

-- The label at an index is the first with its text that attaches to a region.
pub record IsFirstRegion (texts : ℕ → List ℕ) (founds : ℕ → Option ℕ) (text : List ℕ) (region index : ℕ) : Type 0 where
  pub is : texts index ≡ text
  pub attaches : founds index ≡ Some region
  pub first : (earlier : ℕ) → earlier < index → texts earlier ≡ text → founds earlier ≡ None

-- What the label at an index names, as all labels say.
abbrev pub IsNamed : (ℕ → List ℕ) → (ℕ → Option ℕ) → ℕ → Option ℕ → Type 0
IsNamed texts founds index (Some region) =
    (founds index ≡ Some region)
    × ((is_global (texts index) ≡ true) ⊎ ((earlier : ℕ) → earlier < index → texts earlier ≡ texts index → founds earlier ≡ None))
IsNamed texts founds index None =
    (founds index ≡ None)
    ⊎ ((is_global (texts index) ≡ false) × ((earlier : ℕ) × (earlier < index) × (texts earlier ≡ texts index) × (founds earlier ≢ None)))

-- Labels of one global text before an index attach to these two regions.
pub record ShareText (texts : ℕ → List ℕ) (founds : ℕ → Option ℕ) (count r s : ℕ) : Type 0 where
  pub one : ℕ
  pub other : ℕ
  pub one_below : one < count
  pub other_below : other < count
  pub same : texts one ≡ texts other
  pub global : is_global (texts one) ≡ true
  pub here : founds one ≡ Some r
  pub there : founds other ≡ Some s

-- The labels before an index were counted.
pub record AreCounted (texts : ℕ → List ℕ) (founds : ℕ → Option ℕ) (count : ℕ) (named : List (Option ℕ)) (pairs : List (ℕ × ℕ)) : Type 0 where
  pub so_many : length named ≡ count
  pub each : (index : ℕ) → index < count → IsNamed texts founds index (slice_index_or named index None)
  pub sound : (r s : ℕ) → IsPair pairs r s → ShareText texts founds count r s
  pub whole : (r s : ℕ) → ShareText texts founds count r s → IsJoined (IsPair pairs) r s

-- The labels were counted by where they attach among the tiles.
pub record AreCountedOn (raw : RawTech) (tiles : List RegionTile) (labels : List Label) (counted : Counted) : Type 0 where
  pub found : List (Option Attachment)
  pub attached : AreAttachments raw tiles labels found
  pub are : AreCounted (text_at labels) (region_found found) (length labels) counted.named.items counted.pairs.items
