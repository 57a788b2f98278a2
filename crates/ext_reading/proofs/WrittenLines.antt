-- Lines as they are written say what they were written from.
use Rattle.ext_reading.proofs.Common.{◌≡◌, ◌≤◌, ◌&&◌, subst, inl, inr, length-append, ℕ, ℤ, Bool, true, false, cond, List, [], ◌∷◌, ◌++◌, map, Ok}
use Rattle.ext_reading.proofs.Common.{Err, FitsSigned, refl, ap, ◌∙◌, arith, Some, None, ◌+ℤ◌, ◌<ℤ◌, codes, w32, AllByRecursion, flat_map, list_all}
use Rattle.ext_reading.proofs.Common.{Decides-int_eq, ints, In-append_cases, All-from_In, decimal, is_plain_name, is_separator, IsWord}
use Rattle.ext_reading.proofs.Common.{IsWord-decimal, IsWord-test, FET_EDGE, NodeRec, FetRec, MergeRow, is_word_byte, is_word, is_node_name}
use Rattle.ext_reading.proofs.Common.{IsMeasure, HasIdForm, Grid, and_then, quoted, measure_words, node_words, use_name, term_words, row_path}
use Rattle.ext_reading.proofs.Common.{range_of, second_of, count_of, BadLine, GREATEST_CLASS_VALUE, Corners, UseLine, NodeLine, FetLine, MergeLine}
use Rattle.ext_reading.proofs.Common.{Tech, Classes, Header, Use, Node, Equiv, Fet, Merge, is_path, is_next, if_formed, word_in, cell_in}
use Rattle.ext_reading.proofs.Common.{substrate_in, node_name_in, path_in, numerals_in, use_name_in, side_in, sides_from, words_say}
use Rattle.std.specs.Prelude.{Option, pos}
use Rattle.ext_model.proofs.ElementForms.{id_form, whole_form}
use Rattle.ext_text.specs.WrittenTexts.{span_text, equiv_words, fet_words, merge_words}
use Rattle.ext_reading.specs.LineForms.{six_numerals}
use Rattle.ext_reading.specs.LineForms.{if_corners, corners_in}
use Rattle.ext_reading.proofs.WrittenWords.{IsWord-word, IsWord-plain, IsWord-quoted, node_name_word, word_bytes, unquoted-quoted, formed, node_name_in-quoted}
use Rattle.ext_reading.proofs.WrittenWords.{numeral_in-measure, numeral_in-short, IsMeasured, numerals_of, numerals_from-measures, words-measures}
use Rattle.ext_reading.proofs.WrittenWords.{values_said, numerals_from-values, IsWrittenTerm, side_said, side_in-term, sides_from-terms, words-term}
use Rattle.ext_reading.proofs.WrittenWords.{words-terms}
use Rattle.ext_reading.proofs.WrittenNames.{grid_said, use_name_back}
use Rattle.ext_reading.proofs.Outcomes.{Each, each_of_All}

-- a use with this grid and these six numbers
abbrev pub use_said : List ℕ → List ℕ → Option Grid → ℤ → ℤ → ℤ → ℤ → ℤ → ℤ → UseLine
use_said cell id grid a b c d e f = record {
  cell = cell;
  name = record { id = id; grid = grid_said grid };
  six = (Some a, Some b, Some c, Some d, Some e, Some f);
}

pub says_use : (cell id : List ℕ) (grid : Option Grid) (a b c d e f : ℤ) → is_plain_name cell ≡ true → HasIdForm grid id → FitsSigned w32 a
    → FitsSigned w32 b → FitsSigned w32 c → FitsSigned w32 d → FitsSigned w32 e → FitsSigned w32 f
    → words_say (codes "use" ∷ cell ∷ use_name id grid ∷ decimal a ∷ decimal b ∷ decimal c ∷ decimal d ∷ decimal e ∷ decimal f ∷ [])
    ≡ Ok (Use (use_said cell id grid a b c d e f))
says_use cell id grid a b c d e f plain form fa fb fc fd fe ff =
    let word = use_name id grid in
    let numbers = decimal a ∷ decimal b ∷ decimal c ∷ decimal d ∷ decimal e ∷ decimal f ∷ [] in
    let first : cell_in cell ≡ Ok cell = formed (is_plain_name cell) cell plain in
    let second : use_name_in word ≡ Ok (record { id = id; grid = grid_said grid }) = use_name_back id grid form in
    let six : six_numerals numbers ≡ Ok (Some a, Some b, Some c, Some d, Some e, Some f) =
    rw (numeral_in-short a fa, numeral_in-short b fb, numeral_in-short c fc, numeral_in-short d fd, numeral_in-short e fe, numeral_in-short f ff) refl in
    ap (λ found. and_then found (λ cell. and_then (use_name_in word) (λ name. and_then (six_numerals numbers) (λ six.
    Ok (Use (record { cell = cell; name = name; six = six })))))) first
    ∙ (ap (λ found. and_then found (λ name. and_then (six_numerals numbers) (λ six. Ok (Use (record { cell = cell; name = name; six = six }))))) second
    ∙ ap (λ found. and_then found (λ six. Ok (Use (record { cell = cell; name = record { id = id; grid = grid_said grid }; six = six })))) six)

-- bytes that end no word
abbrev Plain : List ℕ → Type 0
Plain text = Each (λ byte. is_separator byte ≡ false) text

plain_append : (text more : List ℕ) → Plain text → Plain more → Plain (text ++ more)
plain_append text more one two = λ byte h. elim (In-append_cases byte text more h) [ inl here ↦ one byte here | inr there ↦ two byte there ]

plain_mark : (mark : ℕ) (text : List ℕ) → is_separator mark ≡ false → Plain text → Plain (mark ∷ text)
plain_mark mark text is all = λ byte h. elim h [ inl e ↦ subst (λ (b : ℕ). is_separator b ≡ false) e is | inr there ↦ all byte there ]

plain_word : (word : List ℕ) → IsWord word → Plain word
plain_word word is = each_of_All (λ byte. is_separator byte ≡ false) word is.plain

plain_number : (z : ℤ) (rest : List ℕ) → Plain rest → Plain (decimal z ++ rest)
plain_number z rest all = plain_append (decimal z) rest (plain_word (decimal z) (IsWord-decimal z)) all

plain_span : (lo hi sep : ℤ) → Plain (span_text lo hi sep)
plain_span lo hi sep =
    let last = decimal sep ++ 93 ∷ [] in
    let two = decimal hi ++ 58 ∷ last in
    plain_mark 91 (decimal lo ++ 58 ∷ two) refl
    (plain_number lo (58 ∷ two) (plain_mark 58 two refl
    (plain_number hi (58 ∷ last) (plain_mark 58 last refl (plain_number sep (93 ∷ []) (plain_mark 93 [] refl (λ byte h. absurd h)))))))

-- the name of a use is a word
word_named : (id : List ℕ) (grid : Option Grid) → HasIdForm grid id → IsWord (use_name id grid)
word_named id None form = IsWord-word id (node_name_word id (whole_form id form))
word_named id (Some grid) form =
    let is = IsWord-word id (node_name_word id (id_form id form.0)) in
    let x = span_text grid.xlo grid.xhi grid.xsep in
    let y = span_text grid.ylo grid.yhi grid.ysep in
    record {
      some = let first = is.some in omega (arith, first, length-append id (x ++ y));
      plain = All-from_In (λ byte. is_separator byte ≡ false) (id ++ (x ++ y))
          (plain_append id (x ++ y) (plain_word id is)
          (plain_append x y (plain_span grid.xlo grid.xhi grid.xsep) (plain_span grid.ylo grid.yhi grid.ysep)));
    }

pub words_use : (cell id : List ℕ) (grid : Option Grid) (numbers : List ℤ) → is_plain_name cell ≡ true → HasIdForm grid id
    → AllByRecursion IsWord (codes "use" ∷ cell ∷ use_name id grid ∷ map decimal numbers)
words_use cell id grid numbers plain form =
    (IsWord-test (codes "use") refl, (IsWord-plain cell plain, (word_named id grid form, decimals numbers)))
  where
    decimals : (numbers : List ℤ) → AllByRecursion IsWord (map decimal numbers)
    decimals [] = tt
    decimals (z ∷ numbers) = (IsWord-decimal z, decimals numbers)

-- a node
pub record IsWrittenNode (node : NodeRec) : Type 0 where
  pub name : is_node_name node.name ≡ true
  pub kind : is_word node.kind ≡ true
  pub cap : IsMeasure node.cap
  pub x : FitsSigned w32 node.x
  pub y : FitsSigned w32 node.y
  pub measures : AllByRecursion IsMeasured node.measures

abbrev pub node_said : NodeRec → NodeLine
node_said node = record { name = node.name; cap = Some node.cap; x = Some node.x; y = Some node.y; kind = node.kind; measures = numerals_of node.measures }

pub says_node : (node : NodeRec) → IsWrittenNode node → words_say (node_words node) ≡ Ok (Node (node_said node))
says_node node is =
    let one : node_name_in (quoted node.name) ≡ Ok node.name = node_name_in-quoted node.name is.name in
    let kind : word_in node.kind ≡ Ok node.kind = formed (is_word node.kind) node.kind is.kind in
    let measures : numerals_in (measure_words node.measures) ≡ Ok (numerals_of node.measures) = numerals_from-measures [] node.measures is.measures in
    rw (measures, one, numeral_in-measure node.cap is.cap, numeral_in-short node.x is.x, numeral_in-short node.y is.y, kind) refl

pub words_node : (node : NodeRec) → IsWrittenNode node → AllByRecursion IsWord (node_words node)
words_node node is = (
  IsWord-test (codes "node") refl,
  (
    IsWord-quoted node.name (word_bytes node.name (node_name_word node.name is.name)),
    (
      IsWord-test (codes "0") refl,
      (IsWord-decimal node.cap, (IsWord-decimal node.x, (IsWord-decimal node.y, (IsWord-word node.kind is.kind, words-measures node.measures)))),
    ),
  ),
)

-- another name of a node
pub says_equiv : (name alias : List ℕ) → is_node_name name ≡ true → is_node_name alias ≡ true → words_say (equiv_words name alias) ≡ Ok (Equiv name alias)
says_equiv name alias named other =
    let one : node_name_in (quoted name) ≡ Ok name = node_name_in-quoted name named in
    let two : node_name_in (quoted alias) ≡ Ok alias = node_name_in-quoted alias other in
    rw (one, two) refl

pub words_equiv : (name alias : List ℕ) → is_node_name name ≡ true → is_node_name alias ≡ true → AllByRecursion IsWord (equiv_words name alias)
words_equiv name alias named other = (
  IsWord-test (codes "equiv") refl,
  (IsWord-quoted name (word_bytes name (node_name_word name named)), (IsWord-quoted alias (word_bytes alias (node_name_word alias other)), tt)),
)

-- a transistor
pub record IsWrittenFet (fet : FetRec) : Type 0 where
  pub kind : is_word fet.kind ≡ true
  pub substrate : is_word fet.substrate ≡ true
  pub x : FitsSigned w32 fet.x
  pub y : FitsSigned w32 fet.y
  pub x_below_edge : fet.x <ℤ FET_EDGE
  pub y_below_edge : fet.y <ℤ FET_EDGE
  pub area : IsMeasure fet.area
  pub perimeter : IsMeasure fet.perimeter
  pub gate : IsWrittenTerm fet.gate
  pub terminals : AllByRecursion IsWrittenTerm fet.terminals

pub next_fits : (z : ℤ) → FitsSigned w32 z → z <ℤ FET_EDGE → FitsSigned w32 (z +ℤ pos 1)
next_fits z fits below = grind (arith, ints)

abbrev pub corners_said : FetRec → Corners
corners_said fet = record { x = Some fet.x; y = Some fet.y; far_x = Some (fet.x +ℤ pos 1); far_y = Some (fet.y +ℤ pos 1) }

abbrev pub fet_said : FetRec → FetLine
fet_said fet = record {
  kind = fet.kind;
  corners = corners_said fet;
  area = Some fet.area;
  perimeter = Some fet.perimeter;
  substrate = fet.substrate;
  gate = side_said fet.gate;
  terminals = map side_said fet.terminals;
}

is_next-next : (z : ℤ) → is_next (Some z) (Some (z +ℤ pos 1)) ≡ true
is_next-next z = (Decides-int_eq (z +ℤ pos 1) (z +ℤ pos 1)).1 refl

corners_are : (fet : FetRec) → if_corners (corners_said fet) ≡ Ok (corners_said fet)
corners_are fet = both (is_next (Some fet.x) (Some (fet.x +ℤ pos 1))) (is_next (Some fet.y) (Some (fet.y +ℤ pos 1))) (is_next-next fet.x) (is_next-next fet.y)
  where
    both : (one two : Bool) → one ≡ true → two ≡ true → cond (one && two) (Ok (corners_said fet)) (Err BadLine) ≡ Ok (corners_said fet)
    both true true a b = refl
    both true false a b = absurd (let no : ⊥ = cc in no)
    both false two a b = absurd (let no : ⊥ = cc in no)

pub says_fet : (fet : FetRec) → IsWrittenFet fet → words_say (fet_words fet) ≡ Ok (Fet (fet_said fet))
says_fet fet is =
    let kind : word_in fet.kind ≡ Ok fet.kind = formed (is_word fet.kind) fet.kind is.kind in
    let corners : corners_in (decimal fet.x) (decimal fet.y) (decimal (fet.x +ℤ pos 1)) (decimal (fet.y +ℤ pos 1)) ≡ Ok (corners_said fet) =
    rw (
      numeral_in-short fet.x is.x,
      numeral_in-short fet.y is.y,
      numeral_in-short (fet.x +ℤ pos 1) (next_fits fet.x is.x is.x_below_edge),
      numeral_in-short (fet.y +ℤ pos 1) (next_fits fet.y is.y is.y_below_edge),
    ) (corners_are fet) in
    let substrate : substrate_in (quoted fet.substrate) ≡ Ok fet.substrate =
    ap word_in (unquoted-quoted fet.substrate) ∙ formed (is_word fet.substrate) fet.substrate is.substrate in
    let gate : side_in (quoted fet.gate.node) (decimal fet.gate.length) ≡ Ok (side_said fet.gate) = side_in-term fet.gate is.gate in
    let terminals : sides_from [] (flat_map term_words fet.terminals) ≡ Ok (map side_said fet.terminals) = sides_from-terms [] fet.terminals is.terminals in
    rw (kind, corners, numeral_in-measure fet.area is.area, numeral_in-measure fet.perimeter is.perimeter, substrate, gate, terminals) refl

pub words_fet : (fet : FetRec) → IsWrittenFet fet → AllByRecursion IsWord (fet_words fet)
words_fet fet is =
    let behind : AllByRecursion IsWord (decimal fet.area ∷ decimal fet.perimeter ∷ quoted fet.substrate ∷ term_words fet.gate ++ flat_map term_words
    fet.terminals) = (
      IsWord-decimal fet.area,
      (
        IsWord-decimal fet.perimeter,
        (
          IsWord-quoted fet.substrate (word_bytes fet.substrate is.substrate),
          words-term fet.gate is.gate (flat_map term_words fet.terminals) (words-terms fet.terminals is.terminals),
        ),
      ),
    ) in (
      IsWord-test (codes "fet") refl,
      (
        IsWord-word fet.kind is.kind,
        (
          IsWord-decimal
              fet.x,
          (IsWord-decimal fet.y, (IsWord-decimal (fet.x +ℤ pos 1), (IsWord-decimal (fet.y +ℤ pos 1), behind))),
        ),
      ),
    )

-- The word is read as the second path of so many merges.
pub record IsReadRow (second : List ℕ) (count : ℕ) (word : List ℕ) : Type 0 where
  pub form : is_path word ≡ true
  pub bytes : list_all is_word_byte word ≡ true
  pub second_is : second_of word (range_of word) ≡ second
  pub count_is : count_of (range_of word) ≡ count

-- a row of merges
pub record IsWrittenMerge (row : MergeRow) : Type 0 where
  pub first : is_path row.first ≡ true
  pub first_bytes : list_all is_word_byte row.first ≡ true
  pub second : IsReadRow row.second row.count (row_path row.second row.count)
  pub cap : IsMeasure row.cap
  pub measures : AllByRecursion IsMeasured row.measures

abbrev pub merge_said : MergeRow → MergeLine
merge_said row = record {
  first = row.first;
  second = row_path row.second row.count;
  cap = Some row.cap;
  measures = numerals_of row.measures;
}

path_in-quoted : (path : List ℕ) → is_path path ≡ true → path_in (quoted path) ≡ Ok path
path_in-quoted path is = ap (λ p. if_formed (is_path p) p) (unquoted-quoted path) ∙ formed (is_path path) path is

-- a line of these words with a second path
says_joined : (row : MergeRow) (second : List ℕ) → is_path row.first ≡ true → is_path second ≡ true → IsMeasure row.cap
    → AllByRecursion IsMeasured row.measures
    → words_say (codes "merge" ∷ quoted row.first ∷ quoted second ∷ decimal row.cap ∷ measure_words row.measures)
    ≡ Ok (Merge (record { first = row.first; second = second; cap = Some row.cap; measures = numerals_of row.measures }))
says_joined row second a b c d =
    let one : path_in (quoted row.first) ≡ Ok row.first = path_in-quoted row.first a in
    let two : path_in (quoted second) ≡ Ok second = path_in-quoted second b in
    let measures : numerals_in (measure_words row.measures) ≡ Ok (numerals_of row.measures) = numerals_from-measures [] row.measures d in
    rw (one, two, numeral_in-measure row.cap c, measures) refl

pub says_merge : (row : MergeRow) → IsWrittenMerge row → words_say (merge_words row) ≡ Ok (Merge (merge_said row))
says_merge row is = says_joined row (row_path row.second row.count) is.first is.second.form is.cap is.measures

pub words_merge : (row : MergeRow) → IsWrittenMerge row → AllByRecursion IsWord (merge_words row)
words_merge row is = (
  IsWord-test (codes "merge") refl,
  (
    IsWord-quoted row.first is.first_bytes,
    (IsWord-quoted (row_path row.second row.count) is.second.bytes, (IsWord-decimal row.cap, words-measures row.measures)),
  ),
)

-- lines of the header with words of their own
pub says_tech : (tech : List ℕ) → is_word tech ≡ true → words_say (codes "tech" ∷ tech ∷ []) ≡ Ok (Header (Tech tech))
says_tech tech is = let one : word_in tech ≡ Ok tech = formed (is_word tech) tech is in rw one refl

pub says_classes : (values : List ℕ) → AllByRecursion (λ v. v ≤ GREATEST_CLASS_VALUE) values
    → words_say (codes "resistclasses" ∷ map (λ value. decimal (pos value)) values) ≡ Ok (Header (Classes (values_said values)))
says_classes values all =
    let numbers : numerals_in (map (λ value. decimal (pos value)) values) ≡ Ok (values_said values) = numerals_from-values [] values all in
    rw numbers refl
