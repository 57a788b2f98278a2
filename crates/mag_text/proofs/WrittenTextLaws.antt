-- What is appended, one part behind the other, is the text.
use Rattle.mag_text.proofs.Common.{◌≡◌, ◌==◌, ◌+◌, ◌<◌, ℕ, ℤ, false, List, length, inl, inr, subst, arith, [], ◌∷◌, ◌++◌, map, refl, sym, ap, ◌∙◌}
use Rattle.mag_text.proofs.Common.{append_assoc, append-nil, codes, flat_map, Rect, get_or, line_of, RawTech, first_name, layer_at, Layout}
use Rattle.mag_text.proofs.Common.{LayerStrips, WrittenUse, numbers_line, scale_lines, no_time_line, tech_line, header_lines, group_line, area_line}
use Rattle.mag_text.proofs.Common.{group_lines, layer_lines, array_lines, use_line, use_lines, layer_word, label_numbers, label_line, AreLayerStrips}
use Rattle.mag_text.proofs.Common.{labels_lines, end_line, numbers_behind_blanks, text_of_each, transform_line, box_line}
use Rattle.std.specs.List.{join_with_byte}
use Rattle.std.proofs.lemmas.Bool.{cases_eq}
use Rattle.std.proofs.lemmas.List.{length-append, get_or_push, get_or_append_left}
use Rattle.text_scan.specs.Decimal.{decimal}
use Rattle.text_scan.specs.Written.{text_of}
use Rattle.text_scan.proofs.WrittenLemmas.{text_of-append, lines_behind}
use Rattle.tech_model.specs.declared.raw.Label.{Label}
use Rattle.mag_text.specs.WrittenTexts.{mag_text}

-- numbers behind a word
numbers_behind : (word : List ℕ) (numbers : List ℤ) → join_with_byte 32 (word ∷ map decimal numbers) ≡ word ++ numbers_behind_blanks numbers
numbers_behind word [] = sym (append-nil word)
numbers_behind word (z ∷ numbers) = ap (λ (rest : List ℕ). word ++ 32 ∷ rest) (numbers_behind (decimal z) numbers)

pub numbers_appended : (key : List ℕ) (numbers : List ℤ) (out a b c : List ℕ)
    → a ≡ out ++ key → b ≡ a ++ numbers_behind_blanks numbers → c ≡ b ++ 10 ∷ [] → c ≡ out ++ text_of (numbers_line key numbers ∷ [])
numbers_appended key numbers out a b c ha hb hc = rw (hc, hb, ha, numbers_behind key numbers) (simp append_assoc)

-- the text of lines of which each record has some
pub text_of-each : {X : Type 0} (lines : X → List (List ℕ)) (records : List X) → text_of (flat_map lines records) ≡ text_of_each lines records
text_of-each lines [] = refl
text_of-each lines (x ∷ records) = text_of-append (lines x) (flat_map lines records)
    ∙ ap (λ (rest : List ℕ). text_of (lines x) ++ rest) (text_of-each lines records)

-- and of which each has one
pub text_of-map : {X : Type 0} (line : X → List ℕ) (records : List X) → text_of (map line records) ≡ text_of_each (λ x. line x ∷ []) records
text_of-map line [] = refl
text_of-map line (x ∷ records) = ap (λ (rest : List ℕ). line x ++ 10 ∷ rest) (text_of-map line records)
    ∙ sym (append_assoc (line x) (10 ∷ []) (text_of_each (λ x. line x ∷ []) records))

pub group_appended : (name : List ℕ) (areas : List Rect) (area : Rect) (out a b : List ℕ) → a ≡ out ++ text_of (group_line name ∷ [])
    → b ≡ a ++ text_of_each (λ area. area_line area ∷ []) (area ∷ areas) → b ≡ out ++ text_of (group_lines name (area ∷ areas))
group_appended name areas area out a b ha hb =
    lines_behind (group_line name ∷ []) (map area_line (area ∷ areas)) out a b ha
    (hb ∙ ap (λ (text : List ℕ). a ++ text) (sym (text_of-map area_line (area ∷ areas))))

-- a layer whose image stands somewhere has a group
pub layer_appended : (raw : RawTech) (strips : LayerStrips) (name : List ℕ) (areas : List Rect) (out a b : List ℕ)
    → areas ≡ strips.areas → (length areas == 0) ≡ false → name ≡ first_name (layer_at raw strips.layer) → a ≡ out ++ text_of (group_line name ∷ [])
    → b ≡ a ++ text_of_each (λ area. area_line area ∷ []) areas → b ≡ out ++ text_of (layer_lines raw strips)
layer_appended raw strips name [] out a b areas_are some name_is ha hb = absurd (let no : ⊥ = cc in no)
layer_appended raw strips name (area ∷ areas) out a b areas_are some name_is ha hb =
    group_appended name areas area out a b ha hb
    ∙ ap (λ (list : List Rect). out ++ text_of (group_lines name list)) areas_are
    ∙ ap (λ (word : List ℕ). out ++ text_of (group_lines word strips.areas)) name_is

pub use_appended : (placed : WrittenUse) (cell : List ℕ) (out a b c d e : List ℕ) → cell ≡ placed.cell.now
    → a ≡ out ++ text_of (use_line cell placed.id.now ∷ []) → b ≡ a ++ text_of (array_lines placed.grid) → c ≡ b ++ text_of (no_time_line ∷ [])
    → d ≡ c ++ text_of (transform_line placed.six ∷ []) → e ≡ d ++ text_of (box_line placed.hull ∷ [])
    → e ≡ out ++ text_of (use_lines placed)
use_appended placed cell out a b c d e cell_is ha hb hc hd he =
    let first : a ≡ out ++ text_of (use_line placed.cell.now placed.id.now ∷ []) =
    ha ∙ ap (λ (w : List ℕ). out ++ text_of (use_line w placed.id.now ∷ [])) cell_is in
    let transform = transform_line placed.six in
    let edges = box_line placed.hull in
    let ab = lines_behind (use_line placed.cell.now placed.id.now ∷ []) (array_lines placed.grid) out a b first hb in
    let de = lines_behind (transform ∷ []) (edges ∷ []) c d e hd he in
    let ce = lines_behind (no_time_line ∷ []) (transform ∷ edges ∷ []) b c e hc de in
    lines_behind (use_line placed.cell.now placed.id.now ∷ array_lines placed.grid) (no_time_line ∷ transform ∷ edges ∷ []) out b e ab ce

-- a word, then numbers, then another word
numbers_between : (word text : List ℕ) (numbers : List ℤ)
    → join_with_byte 32 (word ∷ (map decimal numbers ++ text ∷ [])) ≡ word ++ (numbers_behind_blanks numbers ++ 32 ∷ text)
numbers_between word text [] = refl
numbers_between word text (z ∷ numbers) =
    ap (λ (rest : List ℕ). word ++ 32 ∷ rest) (numbers_between (decimal z) text numbers)
    ∙ ap (λ (rest : List ℕ). word ++ 32 ∷ rest) (sym (append_assoc (decimal z) (numbers_behind_blanks numbers) (32 ∷ text)))

label_joined : (word text : List ℕ) (numbers : List ℤ) (out a b c d e : List ℕ) → a ≡ out ++ codes "rlabel" → b ≡ a ++ 32 ∷ word
    → c ≡ b ++ numbers_behind_blanks numbers → d ≡ c ++ 32 ∷ text → e ≡ d ++ 10 ∷ []
    → e ≡ out ++ text_of (line_of (codes "rlabel" ∷ word ∷ (map decimal numbers ++ text ∷ [])) ∷ [])
label_joined word text numbers out a b c d e ha hb hc hd he = rw (he, hd, hc, hb, ha, numbers_between word text numbers) (simp append_assoc)

pub label_appended : (raw : RawTech) (label : Label) (word text : List ℕ) (out a b c d e : List ℕ) → word ≡ layer_word raw label.layer → text ≡ label.text
    → a ≡ out ++ codes "rlabel" → b ≡ a ++ 32 ∷ word → c ≡ b ++ numbers_behind_blanks (label_numbers label.area label.position)
    → d ≡ c ++ 32 ∷ text → e ≡ d ++ 10 ∷ [] → e ≡ out ++ text_of (label_line raw label ∷ [])
label_appended raw label word text out a b c d e word_is text_is ha hb hc hd he =
    let numbers = label_numbers label.area label.position in
    label_joined word text numbers out a b c d e ha hb hc hd he
    ∙ ap (λ (w : List ℕ). out ++ text_of (line_of (codes "rlabel" ∷ w ∷ (map decimal numbers ++ text ∷ [])) ∷ [])) word_is
    ∙ ap (λ (t : List ℕ). out ++ text_of (line_of (codes "rlabel" ∷ layer_word raw label.layer ∷ (map decimal numbers ++ t ∷ [])) ∷ [])) text_is

pub labels_appended : (raw : RawTech) (labels : List Label) (label : Label) (out a b : List ℕ) → a ≡ out ++ text_of (codes "<< labels >>" ∷ [])
    → b ≡ a ++ text_of_each (λ label. label_line raw label ∷ []) (label ∷ labels) → b ≡ out ++ text_of (labels_lines raw (label ∷ labels))
labels_appended raw labels label out a b ha hb =
    lines_behind (codes "<< labels >>" ∷ []) (map (label_line raw) (label ∷ labels)) out a b ha
    (hb ∙ ap (λ (text : List ℕ). a ++ text) (sym (text_of-map (label_line raw) (label ∷ labels))))

-- labels have a group, where there are some
pub some_labels_appended : (raw : RawTech) (labels : List Label) (out a b : List ℕ) → (length labels == 0) ≡ false → a ≡ out ++ codes "<< labels >>\n"
    → b ≡ a ++ text_of_each (λ label. label_line raw label ∷ []) labels → b ≡ out ++ text_of (labels_lines raw labels)
some_labels_appended raw [] out a b some ha hb = absurd (let no : ⊥ = cc in no)
some_labels_appended raw (label ∷ labels) out a b some ha hb = labels_appended raw labels label out a b ha hb

pub header_appended : (name word : List ℕ) (scale : ℕ × ℕ) (out a b c : List ℕ) → word ≡ name → a ≡ out ++ text_of (codes "magic" ∷ tech_line word ∷ [])
    → b ≡ a ++ text_of (scale_lines scale) → c ≡ b ++ text_of (no_time_line ∷ []) → c ≡ out ++ text_of (header_lines name scale)
header_appended name word scale out a b c is ha hb hc =
    let first : a ≡ out ++ text_of (codes "magic" ∷ tech_line name ∷ []) = ha ∙ ap (λ (w : List ℕ). out ++ text_of (codes "magic" ∷ tech_line w ∷ [])) is in
    lines_behind (codes "magic" ∷ tech_line name ∷ []) (scale_lines scale ++ no_time_line ∷ []) out a c first
    (lines_behind (scale_lines scale) (no_time_line ∷ []) a b c hb hc)

-- the parts of a cell make its text
pub cell_appended : (raw : RawTech) (scale : ℕ × ℕ) (strips : List LayerStrips) (uses : List WrittenUse) (labels : List Label) (out a b c d e : List ℕ)
    → a ≡ out ++ text_of (header_lines raw.name scale) → b ≡ a ++ text_of_each (layer_lines raw) strips → c ≡ b ++ text_of_each use_lines uses
    → d ≡ c ++ text_of (labels_lines raw labels) → e ≡ d ++ text_of (end_line ∷ []) → e ≡ out ++ mag_text raw scale strips uses labels
unfolding mag_text
cell_appended raw scale strips uses labels out a b c d e ha hb hc hd he =
    let paint = hb ∙ ap (λ (text : List ℕ). a ++ text) (sym (text_of-each (layer_lines raw) strips)) in
    let used = hc ∙ ap (λ (text : List ℕ). b ++ text) (sym (text_of-each use_lines uses)) in
    let de = lines_behind (labels_lines raw labels) (end_line ∷ []) c d e hd he in
    let ce = lines_behind (flat_map use_lines uses) (labels_lines raw labels ++ end_line ∷ []) b c e used de in
    let be = lines_behind (flat_map (layer_lines raw) strips) (flat_map use_lines uses ++ (labels_lines raw labels ++ end_line ∷ [])) a b e paint ce in
    lines_behind (header_lines raw.name scale) (flat_map (layer_lines raw) strips ++ (flat_map use_lines uses ++ (labels_lines raw labels ++ end_line ∷ [])))
    out a e ha be

-- the strips of one more layer
pub strips_more : (raw : RawTech) (layout : Layout) (strips after : List LayerStrips) (more : LayerStrips) (index : ℕ) → length strips ≡ index
    → after ≡ strips ++ more ∷ [] → AreLayerStrips raw layout index more
    → ((layer : ℕ) (other : LayerStrips) → layer < index → AreLayerStrips raw layout layer (get_or strips layer other))
    → (layer : ℕ) (other : LayerStrips) → layer < index + 1 → AreLayerStrips raw layout layer (get_or after layer other)
strips_more raw layout strips after more index long is more_is are = λ layer other below.
    elim (cases_eq layer index) [
      | inl here ↦
          subst (λ (n : ℕ). AreLayerStrips raw layout n (get_or after n other)) (sym here)
          (subst (λ (v : LayerStrips). AreLayerStrips raw layout index v)
          (sym (ap (λ (list : List LayerStrips). get_or list index other) is ∙ get_or_push strips more other index long)) more_is)
      | inr apart ↦
          let before : layer < length strips = omega arith in
          subst (λ (v : LayerStrips). AreLayerStrips raw layout layer v)
          (sym (ap (λ (list : List LayerStrips). get_or list layer other) is ∙ get_or_append_left strips (more ∷ []) other layer before))
          (are layer other (omega arith))
    ]

pub strips_counted : (strips after : List LayerStrips) (more : LayerStrips) (index : ℕ) → length strips ≡ index → after ≡ strips ++ more ∷ []
    → length after ≡ index + 1
strips_counted strips after more index long is = ap length is ∙ length-append strips (more ∷ []) ∙ omega arith
