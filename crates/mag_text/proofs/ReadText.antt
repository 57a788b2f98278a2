-- The text of a written cell has the lines that it was made of.
use Rattle.mag_text.proofs.Common.{◌≡◌, ◌==◌, ℕ, ℤ, pos, Bool, true, false, List, [], ◌∷◌, ◌++◌, length, get_or, map, Option, Some, None, Ok, refl}
use Rattle.mag_text.proofs.Common.{ap, ◌∙◌, arith, ◌&&◌, ◌||◌, not, codes, nat_le, flat_map, All, AllByRecursion, list_all, and_parts, or_parts}
use Rattle.mag_text.proofs.Common.{Decides-by_and, nat_tests, Grid, Rect, is_line_feed, is_blank, IsWord, line_of, IsWord-test, words-decimals}
use Rattle.mag_text.proofs.Common.{text_state, LONGEST_LABEL, OneLabel, RawTech, layer_at, first_name, IsWellFormed, IsLabel, is_text_byte}
use Rattle.mag_text.proofs.Common.{begins_with_blank, ends_with_blank, is_label_text, LayerStrips, WrittenUse, nothing_yet, step, finish}
use Rattle.mag_text.proofs.Common.{numbers_line, scale_lines, no_time_line, header_lines, group_line, area_line, group_lines, layer_lines}
use Rattle.mag_text.proofs.Common.{array_lines, transform_line, box_line, use_lines, layer_word, label_numbers, label_line, labels_lines, end_line}
use Rattle.mag_text.proofs.Common.{cell_lines, AreWritable, IsWritableUse, IsWritable, draft_of}
use Rattle.std.specs.Prelude.{if◌then◌else◌}
use Rattle.std.proofs.lemmas.List.Elements.{All-append, All-cons}
use Rattle.finite_sets.proofs.Searches.{AllByRecursion-append}
use Rattle.text_scan.specs.Decimal.{decimal}
use Rattle.text_scan.specs.Written.{IsLine}
use Rattle.text_scan.proofs.WrittenLemmas.{IsLine-plain, IsLine-line_of, lines_of-text_of}
use Rattle.text_form.proofs.FoldLaws.{text_state-ended}
use Rattle.mag_text.specs.MagTexts.{mag_in}
use Rattle.mag_text.specs.WrittenTexts.{mag_text}
use Rattle.mag_text.proofs.LayerNames.{first_name-plain}
use Rattle.mag_text.proofs.ReadLines.{IsWord-plain_name, IsWord-use_id}
use Rattle.mag_text.proofs.ReadLabels.{layer_word-is}
use Rattle.mag_text.proofs.ReadBack.{cell_lines-read}

-- a byte that neither ends a line nor is dropped at its end
abbrev IsInner : ℕ → Type 0
IsInner byte = (is_line_feed byte ≡ false) × ((byte == 13) ≡ false)

all_lines : {X : Type 0} (P : X → Type 0) (lines : X → List (List ℕ)) → ((x : X) → P x → AllByRecursion IsLine (lines x)) → (xs : List X) → AllByRecursion P xs
    → AllByRecursion IsLine (flat_map lines xs)
all_lines P lines each [] all = tt
all_lines P lines each (x ∷ xs) all = AllByRecursion-append IsLine (lines x) (flat_map lines xs) (each x all.0) (all_lines P lines each xs all.1)

all_one : {X : Type 0} (P : X → Type 0) (line : X → List ℕ) → ((x : X) → P x → IsLine (line x)) → (xs : List X) → AllByRecursion P xs
    → AllByRecursion IsLine (map line xs)
all_one P line each [] all = tt
all_one P line each (x ∷ xs) all = (each x all.0, all_one P line each xs all.1)

inner_word : (word : List ℕ) → IsWord word → All IsInner word
inner_word word is = λ k d inside.
    let b = get_or word k d in
    let two = or_parts (is_blank b || is_line_feed b) (b == 13) (is.plain k d inside) in
    ((or_parts (is_blank b) (is_line_feed b) two.0).1, two.1)

text_inner : (byte : ℕ) → is_text_byte byte ≡ true → IsInner byte
text_inner byte is = (grind (arith, nat_tests), grind (arith, nat_tests))

inner_text : (text : List ℕ) → is_label_text text ≡ true → All IsInner text
inner_text text is =
    let a = and_parts (nat_le 1 (length text) && nat_le (length text) LONGEST_LABEL && list_all is_text_byte text && not (begins_with_blank text))
    (not (ends_with_blank text)) is in
    let b = and_parts (nat_le 1 (length text) && nat_le (length text) LONGEST_LABEL && list_all is_text_byte text) (not (begins_with_blank text)) a.0 in
    let c = and_parts (nat_le 1 (length text) && nat_le (length text) LONGEST_LABEL) (list_all is_text_byte text) b.0 in
    let tells = Decides-by_and is_text_byte (λ b. is_text_byte b ≡ true) (list_all is_text_byte) (λ b. (λ e. e, λ e. e)) refl (λ _ _. refl) text in
    λ k d inside. text_inner (get_or text k d) (tells.0 c.1 k d inside)

-- words, and a text behind them
inner_line : (first : List ℕ) (words : List (List ℕ)) (text : List ℕ) → IsWord first → AllByRecursion IsWord words → All IsInner text
    → All IsInner (line_of (first ∷ (words ++ text ∷ [])))
inner_line first [] text is all inner = All-append IsInner first (32 ∷ text) (inner_word first is) (All-cons IsInner 32 text (refl, refl) inner)
inner_line first (word ∷ words) text is all inner =
    All-append IsInner first (32 ∷ line_of (word ∷ (words ++ text ∷ []))) (inner_word first is)
    (All-cons IsInner 32 (line_of (word ∷ (words ++ text ∷ []))) (refl, refl) (inner_line word words text all.0 all.1 inner))

numbers-line : (key : List ℕ) (numbers : List ℤ) → IsWord key → IsLine (numbers_line key numbers)
numbers-line key numbers is = IsLine-line_of (key ∷ map decimal numbers) (is, words-decimals numbers)

label-line : (raw : RawTech) → IsWellFormed raw → (label : OneLabel) → IsLabel raw label → IsLine (label_line raw label)
label-line raw formed label is =
    let word = layer_word raw label.layer in
    let words : List (List ℕ) = word ∷ map decimal (label_numbers label.area label.position) in
    IsLine-plain (label_line raw label)
    (inner_line (codes "rlabel") words label.text (IsWord-test (codes "rlabel") refl)
    (layer_word-is raw formed label.layer is.layer, words-decimals (label_numbers label.area label.position))
    (inner_text label.text is.text))

time-line : IsLine no_time_line
time-line = IsLine-line_of (codes "timestamp" ∷ codes "0" ∷ []) (IsWord-test (codes "timestamp") refl, (IsWord-test (codes "0") refl, tt))

area-lines : (areas : List Rect) → AllByRecursion IsLine (map area_line areas)
area-lines [] = tt
area-lines (area ∷ areas) = (numbers-line (codes "rect") (area.xlo ∷ area.ylo ∷ area.xhi ∷ area.yhi ∷ []) (IsWord-test (codes "rect") refl), area-lines areas)

bracket-line : (name : List ℕ) → IsWord name → IsLine (group_line name)
bracket-line name is = IsLine-line_of (codes "<<" ∷ name ∷ codes ">>" ∷ []) (IsWord-test (codes "<<") refl, (is, (IsWord-test (codes ">>") refl, tt)))

group-lines : (name : List ℕ) → IsWord name → (areas : List Rect) → AllByRecursion IsLine (group_lines name areas)
group-lines name is [] = tt
group-lines name is (area ∷ areas) = (bracket-line name is, area-lines (area ∷ areas))

layer-lines : (raw : RawTech) → IsWellFormed raw → (strips : LayerStrips) → AreWritable raw strips → AllByRecursion IsLine (layer_lines raw strips)
layer-lines raw formed strips is =
    let name = first_name (layer_at raw strips.layer) in
    group-lines name (IsWord-plain_name name (first_name-plain raw formed strips.layer is.layer)) strips.areas

grid-lines : (grid : Option Grid) → AllByRecursion IsLine (array_lines grid)
grid-lines None = tt
grid-lines (Some grid) = (
  numbers-line (codes "array") (grid.xlo ∷ grid.xhi ∷ grid.xsep ∷ grid.ylo ∷ grid.yhi ∷ grid.ysep ∷ [])
      (IsWord-test (codes "array") refl),
  tt,
)

hull-line : (hull : Option Rect) → IsLine (box_line hull)
hull-line None =
    let zero = IsWord-test (codes "0") refl in
    IsLine-line_of (codes "box" ∷ codes "0" ∷ codes "0" ∷ codes "0" ∷ codes "0" ∷ []) (IsWord-test (codes "box") refl, (zero, (zero, (zero, (zero, tt)))))
hull-line (Some area) = numbers-line (codes "box") (area.xlo ∷ area.ylo ∷ area.xhi ∷ area.yhi ∷ []) (IsWord-test (codes "box") refl)

use-lines : (placed : WrittenUse) → IsWritableUse placed → AllByRecursion IsLine (use_lines placed)
use-lines placed is =
    let name = IsLine-line_of (codes "use" ∷ placed.cell.now ∷ placed.id.now ∷ [])
    (IsWord-test (codes "use") refl, (IsWord-plain_name placed.cell.now is.cell, (IsWord-use_id placed.id.now is.id, tt))) in (
      name,
      AllByRecursion-append IsLine (array_lines placed.grid) (no_time_line ∷ transform_line placed.six ∷ box_line placed.hull ∷ []) (grid-lines placed.grid)
          (time-line, (numbers-line (codes "transform") placed.six (IsWord-test (codes "transform") refl), (hull-line placed.hull, tt))),
    )

labels-lines : (raw : RawTech) → IsWellFormed raw → (labels : List OneLabel) → AllByRecursion (IsLabel raw) labels
    → AllByRecursion IsLine (labels_lines raw labels)
labels-lines raw formed [] all = tt
labels-lines raw formed (label ∷ labels) all =
    (bracket-line (codes "labels") (IsWord-test (codes "labels") refl), all_one (IsLabel raw) (label_line raw) (label-line raw formed) (label ∷ labels) all)

scale-lines : (scale : ℕ × ℕ) (one : Bool) → AllByRecursion IsLine (if one then [] else numbers_line (codes "magscale") (pos scale.0 ∷ pos scale.1 ∷ []) ∷ [])
scale-lines scale true = tt
scale-lines scale false = (numbers-line (codes "magscale") (pos scale.0 ∷ pos scale.1 ∷ []) (IsWord-test (codes "magscale") refl), tt)

header-lines : (raw : RawTech) → IsWellFormed raw → (scale : ℕ × ℕ) → AllByRecursion IsLine (header_lines raw.name scale)
header-lines raw formed scale = (
  IsLine-line_of (codes "magic" ∷ []) (IsWord-test (codes "magic") refl, tt),
  (
    IsLine-line_of (codes "tech" ∷ raw.name ∷ []) (IsWord-test (codes "tech") refl, (IsWord-plain_name raw.name formed.name, tt)),
    AllByRecursion-append IsLine (scale_lines scale) (no_time_line ∷ []) (scale-lines scale (scale.0 == 1 && scale.1 == 1)) (time-line, tt),
  ),
)

cell-lines : (raw : RawTech) (scale : ℕ × ℕ) (strips : List LayerStrips) (uses : List WrittenUse) (labels : List OneLabel)
    → IsWritable raw scale strips uses labels
    → AllByRecursion IsLine (cell_lines raw scale strips uses labels)
cell-lines raw scale strips uses labels is =
    let formed = is.well_formed in
    let last : AllByRecursion IsLine (end_line ∷ []) = (bracket-line (codes "end") (IsWord-test (codes "end") refl), tt) in
    AllByRecursion-append IsLine (header_lines raw.name scale) _ (header-lines raw formed scale)
    (AllByRecursion-append IsLine (flat_map (layer_lines raw) strips) _
    (all_lines (AreWritable raw) (layer_lines raw) (layer-lines raw formed) strips is.strips_fit)
    (AllByRecursion-append IsLine (flat_map use_lines uses) _ (all_lines IsWritableUse use_lines use-lines uses is.uses_fit)
    (AllByRecursion-append IsLine (labels_lines raw labels) (end_line ∷ []) (labels-lines raw formed labels is.labels_fit) last)))

-- a cell that can be written is read from its text as what it was written from
pub mag_in-mag_text : (raw : RawTech) (scale : ℕ × ℕ) (strips : List LayerStrips) (uses : List WrittenUse) (labels : List OneLabel)
    → IsWritable raw scale strips uses labels
    → mag_in raw (mag_text raw scale strips uses labels) ≡ Ok (draft_of scale strips uses labels)
unfolding mag_in mag_text
mag_in-mag_text raw scale strips uses labels is =
    let lines = cell_lines raw scale strips uses labels in
    ap (text_state (step raw) finish nothing_yet) (lines_of-text_of lines (cell-lines raw scale strips uses labels is))
    ∙ text_state-ended (step raw) finish nothing_yet lines (draft_of scale strips uses labels) (cell_lines-read raw scale strips uses labels is 1)
