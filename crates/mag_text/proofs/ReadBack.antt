-- A written cell is read back.
use Rattle.mag_text.proofs.Common.{◌≡◌, ◌<◌, ◌+◌, ◌==◌, ℕ, ℤ, pos, Bool, true, false, cond, List, [], ◌∷◌, ◌++◌, length, map, Option, Some, None, Ok}
use Rattle.mag_text.proofs.Common.{Err, refl, sym, ap, ◌∙◌, subst, arith, append_assoc, append-nil, ◌&&◌, codes, flat_map, AllByRecursion, bytes_eq}
use Rattle.mag_text.proofs.Common.{Grid, Rect, words_of, IsWord, line_of, IsWord-test, words_of-line_of, and_then, OneLabel, LayerId, RawTech}
use Rattle.mag_text.proofs.Common.{layer_at, first_name, layer_number, IsWellFormed, CellUse, UseTwice, Magic, Drawn, Paint, Labels, ReadOver}
use Rattle.mag_text.proofs.Common.{MagLine, Nothing, Tech, Timestamp, Scale, Group, End, Area, Label, Use, Array, Transform, Box, Section, Start}
use Rattle.mag_text.proofs.Common.{Header, Inside, InUse, Between, Ended, Seen, Named, Arrayed, Dated, Placed, LayerStrips, WrittenUse, Draft}
use Rattle.mag_text.proofs.Common.{nothing_yet, has_id, step, says, and_parts, nat_tests, ints, FitsSigned, inl, inr, w64, IfSome, IsTrue, number_of}
use Rattle.mag_text.proofs.Common.{number_of-decimal, is_in_range, IsLabel, is_grid, is_placing, is_scale_number, Range, if_form, IsPaintable}
use Rattle.mag_text.proofs.Common.{AreWritable, IsWritableUse, use_of, AreNew, IsWritable, drawn_of, drawn_strips, draft_of, cell_lines}
use Rattle.mag_text.proofs.Common.{numbers_line, tech_line, header_lines, group_line, area_line, group_lines, layer_lines, use_line, array_lines}
use Rattle.mag_text.proofs.Common.{transform_line, box_line, no_time_line, use_lines, label_line, labels_lines, end_line}
use Rattle.text_form.specs.Folds.{unless_faulty, first_fault_or}
use Rattle.text_form.proofs.FoldLaws.{first_fault_or-append}
use Rattle.mag_text.specs.Drafts.{none_seen, use_named, no_use, opens, takes_in, is_magic, line_in}
use Rattle.std.proofs.lemmas.Bool.Decides.{Decides-eqb}
use Rattle.std.proofs.Common.{◌⊎◌}
use Rattle.text_scan.specs.Decimal.{decimal, natural_text}
use Rattle.mag_text.specs.NumberForms.{is_decimal, number_in, scale_number_in}
use Rattle.mag_text.specs.WordForms.{after_word}
use Rattle.mag_text.specs.LineForms.{if_four, group_named, timestamp_line, line_by_key}
use Rattle.mag_text.specs.LineForms.{group_line as read_group, tech_line as read_tech, scale_line as read_scale, box_line as read_box}
use Rattle.mag_text.proofs.LawfulLines.{IsGoodScale}
use Rattle.mag_text.proofs.LayerNames.{first_name-plain, first_name-free, group_named-first}
use Rattle.mag_text.proofs.ReadLines.{words-after, says-words, says-numbers, says-area, says-box, says-grid, says-transform, says-use, IsWord-plain_name}
use Rattle.mag_text.proofs.ReadLabels.{says-written_label}
use Rattle.mag_text.specs.WrittenTexts.{grid_line}

-- lines lead from what was read to what is read then, whatever their numbers
abbrev Reads : RawTech → Draft → List (List ℕ) → Draft → Type 0
Reads raw before lines after = (number : ℕ) → first_fault_or (step raw) number before lines ≡ Ok after

reads-none : (raw : RawTech) (draft : Draft) → Reads raw draft [] draft
reads-none raw draft = λ number. refl

reads-append : (raw : RawTech) (a b c : Draft) (first second : List (List ℕ)) → Reads raw a first b → Reads raw b second c → Reads raw a (first ++ second) c
reads-append raw a b c first second here there = λ number.
    first_fault_or-append (step raw) number a first second b (here number) ∙ there (number + length first)

reads-line : (raw : RawTech) (a b c : Draft) (line : List ℕ) (lines : List (List ℕ)) → line_in raw a.section a line ≡ Ok b → Reads raw b lines c
    → Reads raw a (line ∷ lines) c
reads-line raw a b c line lines is more = λ number.
    ap (λ found. unless_faulty number found (λ next. first_fault_or (step raw) (number + 1) next lines)) is ∙ more (number + 1)

-- a section in which a group, a use or the end may begin
abbrev IsOpen : Section → Type 0
IsOpen (Header seen) = Unit {0}
IsOpen (Inside (Paint layer)) = Unit {0}
IsOpen (Inside Labels) = Unit {0}
IsOpen Between = Unit {0}
IsOpen _ = ⊥

-- what a line says is taken in an open section
open_taken : (raw : RawTech) (section : Section) (draft : Draft) (line : List ℕ) → IsOpen section → draft.section ≡ section
    → line_in raw section draft line ≡ and_then (says raw line) (takes_in section draft)
open_taken raw Start draft line open_is is = absurd open_is
open_taken raw (Inside ReadOver) draft line open_is is = absurd open_is
open_taken raw (InUse part) draft line open_is is = absurd open_is
open_taken raw Ended draft line open_is is = absurd open_is
open_taken raw section draft line open_is is = ap (λ s. and_then (says raw line) (takes_in s draft)) is

-- lines that open something
abbrev IsOpener : MagLine → Type 0
IsOpener (Group group) = Unit {0}
IsOpener End = Unit {0}
IsOpener (Use cell id) = Unit {0}
IsOpener _ = ⊥

opener_opens : (section : Section) (draft : Draft) (said : MagLine) → IsOpen section → IsOpener said → takes_in section draft said ≡ opens draft said
opener_opens Start draft said open_is is = absurd open_is
opener_opens (Inside ReadOver) draft said open_is is = absurd open_is
opener_opens (InUse part) draft said open_is is = absurd open_is
opener_opens Ended draft said open_is is = absurd open_is
opener_opens section draft (Group group) open_is is = refl
opener_opens section draft End open_is is = refl
opener_opens section draft (Use cell id) open_is is = refl
opener_opens section draft said open_is is = absurd is

opened : (raw : RawTech) (draft next : Draft) (line : List ℕ) (said : MagLine) → IsOpen draft.section → says raw line ≡ Ok said → IsOpener said
    → opens draft said ≡ Ok next
    → line_in raw draft.section draft line ≡ Ok next
opened raw draft next line said open_is is opener opens_is =
    open_taken raw draft.section draft line open_is refl
    ∙ ap (λ found. and_then found (takes_in draft.section draft)) is ∙ opener_opens draft.section draft said open_is opener ∙ opens_is

-- the lines that stand in every text
zero_text : decimal (pos 0) ≡ codes "0"
unfolding decimal natural_text
zero_text = refl

zero-read : number_of (codes "0") ≡ Ok (pos 0)
zero-read = ap number_of (sym zero_text) ∙ number_of-decimal (pos 0) (record { sfits = omega arith })

by_group : (raw : RawTech) (rest : List ℕ) → line_by_key raw (codes "<<") rest ≡ read_group raw (words_of rest)
unfolding line_by_key
by_group raw rest = refl

says-bracket : (raw : RawTech) (name : List ℕ) → IsWord name
    → says raw (group_line name) ≡ Ok (cond (bytes_eq name (codes "end")) End (Group (group_named raw name)))
says-bracket raw name word =
    let words : List (List ℕ) = name ∷ codes ">>" ∷ [] in
    let all : AllByRecursion IsWord (codes "<<" ∷ words) = (IsWord-test (codes "<<") refl, (word, (IsWord-test (codes ">>") refl, tt))) in
    let line = line_of (codes "<<" ∷ words) in
    let behind = words-after line (codes "<<") words (words_of-line_of (codes "<<" ∷ words) all) in
    says-words raw (codes "<<") words all refl ∙ by_group raw (after_word line) ∙ ap (read_group raw) behind

says-group : (raw : RawTech) → IsWellFormed raw → (layer : ℕ) → layer < length raw.layers
    → says raw (group_line (first_name (layer_at raw layer))) ≡ Ok (Group (Ok (Paint (layer_number layer))))
says-group raw formed layer below =
    let name = first_name (layer_at raw layer) in
    says-bracket raw name (IsWord-plain_name name (first_name-plain raw formed layer below))
    ∙ ap (λ (b : Bool). Ok (cond b End (Group (group_named raw name)))) (first_name-free raw formed layer below).end
    ∙ ap (λ found. Ok (Group found)) (group_named-first raw formed layer below)

says-labels : (raw : RawTech) → says raw (codes "<< labels >>") ≡ Ok (Group (Ok Labels))
says-labels raw = says-bracket raw (codes "labels") (IsWord-test (codes "labels") refl)

says-end : (raw : RawTech) → says raw end_line ≡ Ok End
says-end raw = says-bracket raw (codes "end") (IsWord-test (codes "end") refl)

by_timestamp : (raw : RawTech) (rest : List ℕ) → line_by_key raw (codes "timestamp") rest ≡ timestamp_line (words_of rest)
unfolding line_by_key
by_timestamp raw rest = refl

says-time : (raw : RawTech) → says raw no_time_line ≡ Ok (Timestamp (Ok (pos 0)))
says-time raw =
    let words : List (List ℕ) = codes "0" ∷ [] in
    let all : AllByRecursion IsWord (codes "timestamp" ∷ words) = (IsWord-test (codes "timestamp") refl, (IsWord-test (codes "0") refl, tt)) in
    let line = line_of (codes "timestamp" ∷ words) in
    let behind = words-after line (codes "timestamp") words (words_of-line_of (codes "timestamp" ∷ words) all) in
    says-words raw (codes "timestamp") words all refl ∙ by_timestamp raw (after_word line) ∙ ap timestamp_line behind
    ∙ ap (λ read. if_form (is_decimal read) (Timestamp (number_in read))) zero-read

by_tech : (raw : RawTech) (rest : List ℕ) → line_by_key raw (codes "tech") rest ≡ read_tech (words_of rest)
unfolding line_by_key
by_tech raw rest = refl

says-tech : (raw : RawTech) (name : List ℕ) → IsWord name → says raw (tech_line name) ≡ Ok Tech
says-tech raw name word =
    let words : List (List ℕ) = name ∷ [] in
    let all : AllByRecursion IsWord (codes "tech" ∷ words) = (IsWord-test (codes "tech") refl, (word, tt)) in
    let line = line_of (codes "tech" ∷ words) in
    let behind = words-after line (codes "tech") words (words_of-line_of (codes "tech" ∷ words) all) in
    says-words raw (codes "tech") words all refl ∙ by_tech raw (after_word line) ∙ ap read_tech behind

by_scale : (raw : RawTech) (rest : List ℕ) → line_by_key raw (codes "magscale") rest ≡ read_scale (words_of rest)
unfolding line_by_key
by_scale raw rest = refl

abbrev scale_line : ℕ × ℕ → List ℕ
scale_line scale = numbers_line (codes "magscale") (pos scale.0 ∷ pos scale.1 ∷ [])

scale_number-read : (n : ℕ) → is_scale_number n ≡ true → scale_number_in (Ok (pos n)) ≡ Ok n
scale_number-read n is = ap (λ (b : Bool). cond b (Ok n) (Err Range)) is

scale_fits : (n : ℕ) → is_scale_number n ≡ true → FitsSigned w64 (pos n)
scale_fits n is = record { sfits = grind (arith, nat_tests, ints) }

scale-said : (n d : ℕ) → is_scale_number n ≡ true → is_scale_number d ≡ true → read_scale (decimal (pos n) ∷ decimal (pos d) ∷ []) ≡ Ok (Scale (Ok (n, d)))
scale-said n d hn hd =
    rw (number_of-decimal (pos n) (scale_fits n hn), number_of-decimal (pos d) (scale_fits d hd), scale_number-read n hn, scale_number-read d hd) refl

says-scale : (raw : RawTech) (scale : ℕ × ℕ) → IsGoodScale scale → says raw (scale_line scale) ≡ Ok (Scale (Ok scale))
says-scale raw scale good =
    let line = says-numbers raw (codes "magscale") (pos scale.0 ∷ pos scale.1 ∷ []) (IsWord-test (codes "magscale") refl) refl in
    line.2 ∙ by_scale raw line.0 ∙ ap read_scale line.1 ∙ scale-said scale.0 scale.1 good.0 good.1

by_box : (raw : RawTech) (rest : List ℕ) → line_by_key raw (codes "box") rest ≡ read_box (words_of rest)
unfolding line_by_key
by_box raw rest = refl

no_box : read_box (codes "0" ∷ codes "0" ∷ codes "0" ∷ codes "0" ∷ []) ≡ Ok Box
unfolding if_four
no_box = rw zero-read refl

says-hull : (raw : RawTech) (hull : Option Rect) → IfSome hull (λ hull. IsTrue (is_in_range hull)) → says raw (box_line hull) ≡ Ok Box
says-hull raw None is =
    let zero = IsWord-test (codes "0") refl in
    let words : List (List ℕ) = codes "0" ∷ codes "0" ∷ codes "0" ∷ codes "0" ∷ [] in
    let all : AllByRecursion IsWord (codes "box" ∷ words) = (IsWord-test (codes "box") refl, (zero, (zero, (zero, (zero, tt))))) in
    let line = line_of (codes "box" ∷ words) in
    let behind = words-after line (codes "box") words (words_of-line_of (codes "box" ∷ words) all) in
    says-words raw (codes "box") words all refl ∙ by_box raw (after_word line) ∙ ap read_box behind ∙ no_box
says-hull raw (Some hull) is = says-box raw hull is

-- what was read, by its parts
abbrev reading : Section → CellUse → List Drawn → List CellUse → List OneLabel → ℕ × ℕ → Draft
reading section pending drawn uses labels scale = record { section = section; pending = pending; drawn = drawn; uses = uses; labels = labels; scale = scale }

rects-read : (raw : RawTech) (layer : LayerId) (pending : CellUse) (drawn : List Drawn) (uses : List CellUse) (labels : List OneLabel) (scale : ℕ × ℕ)
    (areas : List Rect)
    → AllByRecursion IsPaintable areas
    → Reads raw (reading (Inside (Paint layer)) pending drawn uses labels scale) (map area_line areas)
    (reading (Inside (Paint layer)) pending (drawn ++ map (drawn_of layer) areas) uses labels scale)
rects-read raw layer pending drawn uses labels scale [] all =
    subst (λ (list : List Drawn). Reads raw (reading (Inside (Paint layer)) pending drawn uses labels scale) []
    (reading (Inside (Paint layer)) pending list uses labels scale))
    (sym (append-nil drawn)) (reads-none raw (reading (Inside (Paint layer)) pending drawn uses labels scale))
rects-read raw layer pending drawn uses labels scale (area ∷ areas) all =
    let before = reading (Inside (Paint layer)) pending drawn uses labels scale in
    let drawn' = drawn ++ drawn_of layer area ∷ [] in
    let more = rects-read raw layer pending drawn' uses labels scale areas all.1 in
    subst (λ (list : List Drawn). Reads raw before (map area_line (area ∷ areas)) (reading (Inside (Paint layer)) pending list uses labels scale))
    (append_assoc drawn (drawn_of layer area ∷ []) (map (drawn_of layer) areas))
    (reads-line raw before (reading (Inside (Paint layer)) pending drawn' uses labels scale) _ (area_line area) (map area_line areas)
    (ap (λ found. and_then found (takes_in (Inside (Paint layer)) before)) (says-area raw area all.0.0 all.0.1)) more)

-- what lines lead to, in some section in which something may begin
record Leads (raw : RawTech) (before : Draft) (lines : List (List ℕ)) (drawn : List Drawn) (uses : List CellUse) (labels : List OneLabel) (scale : ℕ × ℕ) :
    Type 0 where
  section : Section
  is_open : IsOpen section
  reads : Reads raw before lines (reading section no_use drawn uses labels scale)

group-read : (raw : RawTech) → IsWellFormed raw → (section : Section) → IsOpen section
    → (drawn : List Drawn) (uses : List CellUse) (labels : List OneLabel) (scale : ℕ × ℕ)
    (layer : ℕ) → layer < length raw.layers → (areas : List Rect) → AllByRecursion IsPaintable areas
    → Leads raw (reading section no_use drawn uses labels scale) (group_lines (first_name (layer_at raw layer)) areas)
    (drawn ++ map (drawn_of (layer_number layer)) areas) uses labels scale
group-read raw formed section open_is drawn uses labels scale layer below [] all = record {
  section = section;
  is_open = open_is;
  reads =
      subst (λ (list : List Drawn). Reads raw (reading section no_use drawn uses labels scale) [] (reading section no_use list uses labels scale))
      (sym (append-nil drawn)) (reads-none raw (reading section no_use drawn uses labels scale));
}
group-read raw formed section open_is drawn uses labels scale layer below (area ∷ areas) all =
    let id = layer_number layer in
    let before = reading section no_use drawn uses labels scale in
    let within = reading (Inside (Paint id)) no_use drawn uses labels scale in
    record {
      section = Inside (Paint id);
      is_open = tt;
      reads =
          reads-line raw before within _ (group_line (first_name (layer_at raw layer))) (map area_line (area ∷ areas))
          (opened raw before within (group_line (first_name (layer_at raw layer))) (Group (Ok (Paint id))) open_is (says-group raw formed layer below) tt refl)
          (rects-read raw id no_use drawn uses labels scale (area ∷ areas) all);
    }

strips-read : (raw : RawTech) → IsWellFormed raw → (section : Section) → IsOpen section
    → (drawn : List Drawn) (uses : List CellUse) (labels : List OneLabel) (scale : ℕ × ℕ)
    (strips : List LayerStrips) → AllByRecursion (AreWritable raw) strips
    → Leads raw (reading section no_use drawn uses labels scale) (flat_map (layer_lines raw) strips) (drawn ++ flat_map drawn_strips strips) uses labels scale
strips-read raw formed section open_is drawn uses labels scale [] all = record {
  section = section;
  is_open = open_is;
  reads =
      subst (λ (list : List Drawn). Reads raw (reading section no_use drawn uses labels scale) [] (reading section no_use list uses labels scale))
      (sym (append-nil drawn)) (reads-none raw (reading section no_use drawn uses labels scale));
}
strips-read raw formed section open_is drawn uses labels scale (group ∷ strips) all =
    let first = group-read raw formed section open_is drawn uses labels scale group.layer all.0.layer group.areas all.0.areas in
    let drawn' = drawn ++ drawn_strips group in
    let more = strips-read raw formed first.section first.is_open drawn' uses labels scale strips all.1 in
    let before = reading section no_use drawn uses labels scale in
    record {
      section = more.section;
      is_open = more.is_open;
      reads =
          subst (λ (list : List Drawn). Reads raw before (flat_map (layer_lines raw) (group ∷ strips)) (reading more.section no_use list uses labels scale))
          (append_assoc drawn (drawn_strips group) (flat_map drawn_strips strips))
          (reads-append raw before (reading first.section no_use drawn' uses labels scale) _ (layer_lines raw group) (flat_map (layer_lines raw) strips)
          first.reads more.reads);
    }

time-taken : (raw : RawTech) (part : Section) (pending : CellUse) (drawn : List Drawn) (uses : List CellUse) (labels : List OneLabel) (scale : ℕ × ℕ)
    → (part ≡ InUse Named) ⊎ (part ≡ InUse Arrayed)
    → line_in raw part (reading part pending drawn uses labels scale) no_time_line ≡ Ok (reading (InUse Dated) pending drawn uses labels scale)
time-taken raw part pending drawn uses labels scale (inl named) =
    subst (λ (s : Section). line_in raw s (reading s pending drawn uses labels scale) no_time_line
    ≡ Ok (reading (InUse Dated) pending drawn uses labels scale)) (sym named)
    (ap (λ found. and_then found (takes_in (InUse Named) (reading (InUse Named) pending drawn uses labels scale))) (says-time raw))
time-taken raw part pending drawn uses labels scale (inr arrayed) =
    subst (λ (s : Section). line_in raw s (reading s pending drawn uses labels scale) no_time_line
    ≡ Ok (reading (InUse Dated) pending drawn uses labels scale)) (sym arrayed)
    (ap (λ found. and_then found (takes_in (InUse Arrayed) (reading (InUse Arrayed) pending drawn uses labels scale))) (says-time raw))

-- the lines of a use behind its name and its grid
use_rest : (raw : RawTech) (part : Section) (pending : CellUse) (drawn : List Drawn) (uses : List CellUse) (labels : List OneLabel) (scale : ℕ × ℕ)
    (six : List ℤ) (hull : Option Rect)
    → (part ≡ InUse Named) ⊎ (part ≡ InUse Arrayed) → is_placing six ≡ true → says raw (box_line hull) ≡ Ok Box
    → Reads raw (reading part pending drawn uses labels scale) (no_time_line ∷ transform_line six ∷ box_line hull ∷ [])
    (reading Between no_use drawn (uses ++ (record pending { six = six }) ∷ []) labels scale)
use_rest raw part pending drawn uses labels scale six hull where_is placing box =
    let a = reading part pending drawn uses labels scale in
    let b = reading (InUse Dated) pending drawn uses labels scale in
    let c = reading (InUse Placed) no_use drawn (uses ++ (record pending { six = six }) ∷ []) labels scale in
    let d = reading Between no_use drawn (uses ++ (record pending { six = six }) ∷ []) labels scale in
    reads-line raw a b d no_time_line (transform_line six ∷ box_line hull ∷ []) (time-taken raw part pending drawn uses labels scale where_is)
    (reads-line raw b c d (transform_line six) (box_line hull ∷ []) (ap (λ found. and_then found (takes_in (InUse Dated) b)) (says-transform raw six placing))
    (reads-line raw c d d (box_line hull) [] (ap (λ found. and_then found (takes_in (InUse Placed) c)) box) (reads-none raw d)))

by_grid : (raw : RawTech) (placed : WrittenUse) (drawn : List Drawn) (uses : List CellUse) (labels : List OneLabel) (scale : ℕ × ℕ) (grid : Option Grid)
    → IfSome grid (λ g. IsTrue (is_grid g)) → IsWritableUse placed
    → Reads raw (reading (InUse Named) (use_named placed.cell.now placed.id.now) drawn uses labels scale)
    (array_lines grid ++ no_time_line ∷ transform_line placed.six ∷ box_line placed.hull ∷ [])
    (reading Between no_use drawn (uses ++ (record { cell = placed.cell.now; id = placed.id.now; six = placed.six; grid = grid }) ∷ []) labels scale)
by_grid raw placed drawn uses labels scale None grid_is is =
    use_rest raw (InUse Named) (use_named placed.cell.now placed.id.now) drawn uses labels scale placed.six placed.hull (inl refl) is.six
    (says-hull raw placed.hull is.hull)
by_grid raw placed drawn uses labels scale (Some grid) grid_is is =
    let named = reading (InUse Named) (use_named placed.cell.now placed.id.now) drawn uses labels scale in
    let pending : CellUse = record (use_named placed.cell.now placed.id.now) { grid = Some grid } in
    let arrayed = reading (InUse Arrayed) pending drawn uses labels scale in
    reads-line raw named arrayed _ (grid_line grid) (no_time_line ∷ transform_line placed.six ∷ box_line placed.hull ∷ [])
    (ap (λ found. and_then found (takes_in (InUse Named) named)) (says-grid raw grid grid_is))
    (use_rest raw (InUse Arrayed) pending drawn uses labels scale placed.six placed.hull (inr refl) is.six (says-hull raw placed.hull is.hull))

use-read : (raw : RawTech) (section : Section) → IsOpen section
    → (drawn : List Drawn) (uses : List CellUse) (labels : List OneLabel) (scale : ℕ × ℕ) (placed : WrittenUse)
    → IsWritableUse placed → has_id placed.id.now uses ≡ false
    → Reads raw (reading section no_use drawn uses labels scale) (use_lines placed) (reading Between no_use drawn (uses ++ use_of placed ∷ []) labels scale)
use-read raw section open_is drawn uses labels scale placed is new =
    let before = reading section no_use drawn uses labels scale in
    let named = reading (InUse Named) (use_named placed.cell.now placed.id.now) drawn uses labels scale in
    let rest = array_lines placed.grid ++ no_time_line ∷ transform_line placed.six ∷ box_line placed.hull ∷ [] in
    reads-line raw before named _ (use_line placed.cell.now placed.id.now) rest
    (opened raw before named (use_line placed.cell.now placed.id.now) (Use placed.cell.now placed.id.now) open_is
    (says-use raw placed.cell.now placed.id.now is.cell is.id) tt
    (ap (λ (b : Bool). cond b (Err UseTwice) (Ok named)) new))
    (by_grid raw placed drawn uses labels scale placed.grid is.grid is)

uses-read : (raw : RawTech) (section : Section) → IsOpen section
    → (drawn : List Drawn) (uses : List CellUse) (labels : List OneLabel) (scale : ℕ × ℕ) (more : List WrittenUse)
    → AllByRecursion IsWritableUse more → AreNew uses more
    → Leads raw (reading section no_use drawn uses labels scale) (flat_map use_lines more) drawn (uses ++ map use_of more) labels scale
uses-read raw section open_is drawn uses labels scale [] all new = record {
  section = section;
  is_open = open_is;
  reads =
      subst (λ (list : List CellUse). Reads raw (reading section no_use drawn uses labels scale) [] (reading section no_use drawn list labels scale))
      (sym (append-nil uses)) (reads-none raw (reading section no_use drawn uses labels scale));
}
uses-read raw section open_is drawn uses labels scale (placed ∷ others) all new =
    let before = reading section no_use drawn uses labels scale in
    let uses' = uses ++ use_of placed ∷ [] in
    let first = use-read raw section open_is drawn uses labels scale placed all.0 new.0 in
    let more = uses-read raw Between tt drawn uses' labels scale others all.1 new.1 in
    record {
      section = more.section;
      is_open = more.is_open;
      reads =
          subst (λ (list : List CellUse). Reads raw before (flat_map use_lines (placed ∷ others)) (reading more.section no_use drawn list labels scale))
          (append_assoc uses (use_of placed ∷ []) (map use_of others))
          (reads-append raw before (reading Between no_use drawn uses' labels scale) _ (use_lines placed) (flat_map use_lines others) first more.reads);
    }

each_label-read : (raw : RawTech) → IsWellFormed raw
    → (drawn : List Drawn) (uses : List CellUse) (labels : List OneLabel) (scale : ℕ × ℕ) (more : List OneLabel) → AllByRecursion (IsLabel raw) more
    → Reads raw (reading (Inside Labels) no_use drawn uses labels scale) (map (label_line raw) more)
    (reading (Inside Labels) no_use drawn uses (labels ++ more) scale)
each_label-read raw formed drawn uses labels scale [] all =
    subst (λ (list : List OneLabel). Reads raw (reading (Inside Labels) no_use drawn uses labels scale) []
    (reading (Inside Labels) no_use drawn uses list scale))
    (sym (append-nil labels)) (reads-none raw (reading (Inside Labels) no_use drawn uses labels scale))
each_label-read raw formed drawn uses labels scale (label ∷ others) all =
    let before = reading (Inside Labels) no_use drawn uses labels scale in
    let labels' = labels ++ label ∷ [] in
    subst (λ (list : List OneLabel). Reads raw before (map (label_line raw) (label ∷ others)) (reading (Inside Labels) no_use drawn uses list scale))
    (append_assoc labels (label ∷ []) others)
    (reads-line raw before (reading (Inside Labels) no_use drawn uses labels' scale) _ (label_line raw label) (map (label_line raw) others)
    (ap (λ found. and_then found (takes_in (Inside Labels) before)) (says-written_label raw formed label all.0))
    (each_label-read raw formed drawn uses labels' scale others all.1))

labels-read : (raw : RawTech) → IsWellFormed raw → (section : Section) → IsOpen section
    → (drawn : List Drawn) (uses : List CellUse) (scale : ℕ × ℕ) (labels : List OneLabel) → AllByRecursion (IsLabel raw) labels
    → Leads raw (reading section no_use drawn uses [] scale) (labels_lines raw labels) drawn uses labels scale
labels-read raw formed section open_is drawn uses scale [] all =
    record { section = section; is_open = open_is; reads = reads-none raw (reading section no_use drawn uses [] scale) }
labels-read raw formed section open_is drawn uses scale (label ∷ labels) all =
    let before = reading section no_use drawn uses [] scale in
    let within = reading (Inside Labels) no_use drawn uses [] scale in
    record {
      section = Inside Labels;
      is_open = tt;
      reads =
          reads-line raw before within _ (codes "<< labels >>") (map (label_line raw) (label ∷ labels))
          (opened raw before within (codes "<< labels >>") (Group (Ok Labels)) open_is (says-labels raw) tt refl)
          (each_label-read raw formed drawn uses [] scale (label ∷ labels) all);
    }

abbrev seen_of : Bool → Seen
seen_of scale = record { tech = true; timestamp = true; scale = scale }

scale-read : (raw : RawTech) (scale : ℕ × ℕ) (one : Bool) → (scale.0 == 1 && scale.1 == 1) ≡ one → IsGoodScale scale
    → Leads raw (reading (Header (record { tech = true; timestamp = false; scale = false })) no_use [] [] [] (1, 1))
    (cond one [] (scale_line scale ∷ []) ++ no_time_line ∷ []) [] [] [] scale
scale-read raw scale true is good =
    let parts = and_parts (scale.0 == 1) (scale.1 == 1) is in
    let first : scale.0 ≡ 1 = (Decides-eqb scale.0 1).0 parts.0 in
    let second : scale.1 ≡ 1 = (Decides-eqb scale.1 1).0 parts.1 in
    let same : (1, 1) ≡ scale = ap (λ (n : ℕ). (n, 1)) (sym first) ∙ ap (λ (d : ℕ). (scale.0, d)) (sym second) in
    let before = reading (Header (record { tech = true; timestamp = false; scale = false })) no_use [] [] [] (1, 1) in
    let after = reading (Header (seen_of false)) no_use [] [] [] (1, 1) in
    record {
      section = Header (seen_of false);
      is_open = tt;
      reads =
          subst (λ (s : ℕ × ℕ). Reads raw before (no_time_line ∷ []) (reading (Header (seen_of false)) no_use [] [] [] s)) same
          (reads-line raw before after after no_time_line [] (ap (λ found. and_then found (takes_in before.section before)) (says-time raw))
          (reads-none raw after));
    }
scale-read raw scale false is good =
    let before = reading (Header (record { tech = true; timestamp = false; scale = false })) no_use [] [] [] (1, 1) in
    let scaled = reading (Header (record { tech = true; timestamp = false; scale = true })) no_use [] [] [] scale in
    let after = reading (Header (seen_of true)) no_use [] [] [] scale in
    record {
      section = Header (seen_of true);
      is_open = tt;
      reads =
          reads-line raw before scaled after (scale_line scale) (no_time_line ∷ [])
          (ap (λ found. and_then found (takes_in before.section before)) (says-scale raw scale good))
          (reads-line raw scaled after after no_time_line [] (ap (λ found. and_then found (takes_in scaled.section scaled)) (says-time raw))
          (reads-none raw after));
    }

header-read : (raw : RawTech) → IsWellFormed raw → (scale : ℕ × ℕ) → IsGoodScale scale → Leads raw nothing_yet (header_lines raw.name scale) [] [] [] scale
header-read raw formed scale good =
    let begun = reading (Header none_seen) no_use [] [] [] (1, 1) in
    let named = reading (Header (record { tech = true; timestamp = false; scale = false })) no_use [] [] [] (1, 1) in
    let rest = scale-read raw scale (scale.0 == 1 && scale.1 == 1) refl good in
    let behind : List (List ℕ) = cond (scale.0 == 1 && scale.1 == 1) [] (scale_line scale ∷ []) ++ no_time_line ∷ [] in
    let magic : words_of (codes "magic") ≡ codes "magic" ∷ [] = words_of-line_of (codes "magic" ∷ []) (IsWord-test (codes "magic") refl, tt) in
    record {
      section = rest.section;
      is_open = rest.is_open;
      reads =
          reads-line raw nothing_yet begun _ (codes "magic") (tech_line raw.name ∷ behind)
          (ap (λ (words : List (List ℕ)). cond (is_magic words) (Ok begun) (Err Magic)) magic)
          (reads-line raw begun named _ (tech_line raw.name) behind
          (ap (λ found. and_then found (takes_in (Header none_seen) begun)) (says-tech raw raw.name (IsWord-plain_name raw.name formed.name))) rest.reads);
    }

-- the lines of a cell that can be written are read as what they were written from
pub cell_lines-read : (raw : RawTech) (scale : ℕ × ℕ) (strips : List LayerStrips) (uses : List WrittenUse) (labels : List OneLabel)
    → IsWritable raw scale strips uses labels
    → (number : ℕ) → first_fault_or (step raw) number nothing_yet (cell_lines raw scale strips uses labels) ≡ Ok (draft_of scale strips uses labels)
cell_lines-read raw scale strips uses labels is =
    let formed = is.well_formed in
    let a = header-read raw formed scale (is.numerator, is.denominator) in
    let b = strips-read raw formed a.section a.is_open [] [] [] scale strips is.strips_fit in
    let drawn = flat_map drawn_strips strips in
    let c = uses-read raw b.section b.is_open drawn [] [] scale uses is.uses_fit is.ids_differ in
    let d = labels-read raw formed c.section c.is_open drawn (map use_of uses) scale labels is.labels_fit in
    let last = reading d.section no_use drawn (map use_of uses) labels scale in
    let whole = draft_of scale strips uses labels in
    let e : Reads raw last (end_line ∷ []) whole =
    reads-line raw last whole whole end_line [] (opened raw last whole end_line End d.is_open (says-end raw) tt refl) (reads-none raw whole) in
    let de = reads-append raw (reading c.section no_use drawn (map use_of uses) [] scale) last whole (labels_lines raw labels) (end_line ∷ []) d.reads e in
    let ce = reads-append raw (reading b.section no_use drawn [] [] scale) _ whole (flat_map use_lines uses) _ c.reads de in
    let be = reads-append raw (reading a.section no_use [] [] [] scale) _ whole (flat_map (layer_lines raw) strips) _ b.reads ce in
    reads-append raw nothing_yet _ whole (header_lines raw.name scale) _ a.reads be
