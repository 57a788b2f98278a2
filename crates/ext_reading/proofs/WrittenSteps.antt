-- What a written line adds to what was read.
use Rattle.ext_reading.proofs.Common.{◌≡◌, ◌<◌, ◌*◌, ◌==◌, ◌&&◌, not, ℕ, ℤ, Bool, true, false, cond, List, [], ◌∷◌, ◌++◌, length, map, Ok}
use Rattle.ext_reading.proofs.Common.{FitsSigned, refl, sym, ap, ◌∙◌, subst, arith, length-append, append_assoc, get_or, Some, None, ◌+ℤ◌, nat_le}
use Rattle.ext_reading.proofs.Common.{nat_lt, slice_index, w32, AllByRecursion, position, position_or_len, bytes_eq, le-leb, lt-ltb, nat_tests}
use Rattle.ext_reading.proofs.Common.{map-append, position_or_len_is, bytes_eq-Decides, In, In-get_or, IsWord, line_of, words_of-line_of, and_then}
use Rattle.ext_reading.proofs.Common.{NodeRec, FetRec, ArrayUse, MergeRow, Grid, MOST_ELEMENTS, indices, is_orientation, HasIdForm, row_path}
use Rattle.ext_reading.proofs.Common.{UseElements, names_in, is_among, gives_again, ExtReadFault, BadLine, Range, UseTwice, NoName, Two, MOST_USES}
use Rattle.ext_reading.proofs.Common.{Seen, ExtLine, Use, Node, Equiv, Fet, Merge, Outline, words_say, Six, grid_in, six_in, measures_in, point_in}
use Rattle.ext_reading.proofs.Common.{terms_from, Draft, elements_of, takes, node_from, fet_from, has_its_nodes, leads, all_lead, range_of, range_in}
use Rattle.ext_reading.proofs.Common.{second_of, count_of, merge_from, step}
use Rattle.std.specs.Prelude.{Option, Result, Err, pos, slice_set}
use Rattle.std.proofs.Math.Seq.{get_or-append_seam, set-append_seam}
use Rattle.std.proofs.Math.ListN.{get_or-append}
use Rattle.std.proofs.lemmas.Bool.{and_from}
use Rattle.ext_reading.specs.Drafts.{with_use, takes_new_use, named_too, no_node, with_alias_at, takes_equiv}
use Rattle.ext_reading.proofs.WrittenWords.{short_in-short, measure_in-measure, numerals_of, length-numerals_of, measures_from-numerals, side_said}
use Rattle.ext_reading.proofs.WrittenWords.{term_in-term, terms_from-terms}
use Rattle.ext_reading.proofs.WrittenNames.{grid_said}
use Rattle.ext_reading.proofs.WrittenLines.{use_said, IsWrittenNode, node_said, IsWrittenFet, next_fits}
use Rattle.ext_reading.proofs.WrittenLines.{corners_said, fet_said, IsWrittenMerge, merge_said}

-- a draft whose header is complete
abbrev pub all_seen : Seen
all_seen = record { tech = true; timestamp = true; version = true; style = true; scale = true; classes = true }

abbrev pub made : Bool → List ℕ → List ℕ → List ArrayUse → List NodeRec → List (List ℕ) → List ℕ → List FetRec → List MergeRow → Draft
made begun tech classes uses nodes names owners fets merges = record {
  seen = all_seen;
  begun = begun;
  version = Some Two;
  tech = tech;
  classes = classes;
  uses = uses;
  given = map elements_of uses;
  nodes = nodes;
  names = names;
  owners = owners;
  fets = fets;
  merges = merges;
}

-- a line of these words adds what they say
pub step_is : (outline : Outline) (number : ℕ) (draft next : Draft) (words : List (List ℕ)) (said : ExtLine) → AllByRecursion IsWord words
    → words_say words ≡ Ok said
    → takes outline (number == outline.last) draft said ≡ Ok next → step outline number draft (line_of words) ≡ Ok next
step_is outline number draft next words said all says taken =
    ap (λ found. and_then found (takes outline (number == outline.last) draft)) (ap words_say (words_of-line_of words all) ∙ says) ∙ taken

-- a use
abbrev pub use_from : List ℕ → List ℕ → Option Grid → ℤ → ℤ → ℤ → ℤ → ℤ → ℤ → ArrayUse
use_from cell id grid a b c d e f = record { cell = cell; id = id; six = a ∷ b ∷ c ∷ d ∷ e ∷ f ∷ []; grid = grid }

-- its grid
pub grid_back : (id : List ℕ) (grid : Option Grid) → HasIdForm grid id → grid_in (grid_said grid) ≡ Ok grid
grid_back id None form = refl
grid_back id (Some grid) form =
    let is = form.1 in
    let few : nat_le (indices grid.xlo grid.xhi * indices grid.ylo grid.yhi) MOST_ELEMENTS ≡ true =
    le-leb (indices grid.xlo grid.xhi * indices grid.ylo grid.yhi) MOST_ELEMENTS is.count in
    rw (
      short_in-short grid.xlo is.xlo,
      short_in-short grid.xhi is.xhi,
      short_in-short grid.xsep is.xsep,
      short_in-short grid.ylo is.ylo,
      short_in-short grid.yhi is.yhi,
      short_in-short grid.ysep is.ysep,
      few,
    ) refl

pub takes_use-is : (begun : Bool) (tech classes : List ℕ) (done : List ArrayUse) (outline : Outline) (is_last : Bool) (cell id : List ℕ) (grid : Option Grid)
    (a b c d e f : ℤ) → HasIdForm grid id
    → FitsSigned w32 a → FitsSigned w32 b → FitsSigned w32 c → FitsSigned w32 d → FitsSigned w32 e → FitsSigned w32 f → is_orientation a b d e ≡ true
    → length done < MOST_USES → gives_again (map elements_of done) (record { id = id; grid = grid }) ≡ false
    → takes outline is_last (made begun tech classes done [] [] [] [] []) (Use (use_said cell id grid a b c d e f))
    ≡ Ok (made true tech classes (done ++ use_from cell id grid a b c d e f ∷ []) [] [] [] [] [])
takes_use-is begun tech classes done outline is_last cell id grid a b c d e f form fa fb fc fd fe ff oriented few new =
    let used = use_from cell id grid a b c d e f in
    let six : six_in (Some a, Some b, Some c, Some d, Some e, Some f) ≡ Ok (a ∷ b ∷ c ∷ d ∷ e ∷ f ∷ []) =
    rw (short_in-short a fa, short_in-short b fb, short_in-short c fc, short_in-short d fd, short_in-short e fe, short_in-short f ff, oriented) refl in
    let room : nat_lt (length done) MOST_USES ≡ true = lt-ltb (length done) MOST_USES few in
    let given = map-append elements_of done (used ∷ []) in
    let draft = made true tech classes done [] [] [] [] [] in
    let six_said : Six = (Some a, Some b, Some c, Some d, Some e, Some f) in
    ap (λ (t : Bool). cond t (and_then (grid_in (grid_said grid)) (λ grid. and_then (six_in six_said) (λ six.
    takes_new_use draft (record { cell = cell; id = id; six = six; grid = grid })))) (Err Range)) room
    ∙ (ap (λ found. and_then found (λ grid. and_then (six_in six_said) (λ six. takes_new_use draft (record { cell = cell; id = id; six = six; grid = grid }))))
    (grid_back id grid form)
    ∙ (ap (λ found. and_then found (λ six. takes_new_use draft (record { cell = cell; id = id; six = six; grid = grid }))) six
    ∙ (ap (λ (t : Bool). cond t (Err UseTwice) (Ok (with_use draft used))) new
    ∙ ap (λ (l : List UseElements). Ok (record (made true tech classes (done ++ used ∷ []) [] [] [] [] []) { given = l })) (sym given))))

-- a node
node_from-said : (node : NodeRec) → IsWrittenNode node → node_from (node_said node) ≡ Ok (record node { aliases = [] })
node_from-said node is =
    let measures : measures_in (numerals_of node.measures) ≡ Ok node.measures = measures_from-numerals [] node.measures is.measures in
    rw (measure_in-measure node.cap is.cap, short_in-short node.x is.x, short_in-short node.y is.y, measures) refl

counts : (measures : List (ℤ × ℤ)) (classes : List ℕ) → length measures ≡ length classes → (length (numerals_of measures) == 2 * length classes) ≡ true
counts measures classes same = let twice = length-numerals_of measures in grind (arith, nat_tests)

pub takes_node-is : (begun : Bool) (tech classes : List ℕ) (uses : List ArrayUse) (done : List NodeRec) (names : List (List ℕ)) (owners : List ℕ)
    (outline : Outline) (is_last : Bool) (node : NodeRec) → IsWrittenNode node → length node.measures ≡ length classes → is_among node.name names ≡ false
    → takes outline is_last (made begun tech classes uses done names owners [] []) (Node (node_said node))
    ≡ Ok (made true tech classes uses (done ++ (record node { aliases = [] }) ∷ []) (names ++ node.name ∷ []) (owners ++ length done ∷ []) [] [])
takes_node-is begun tech classes uses done names owners outline is_last node is same new =
    rw (counts node.measures classes same, new, node_from-said node is) refl

-- another name of the last node
place_of : (name : List ℕ) (before after : List (List ℕ)) → (In name before → ⊥) → position (bytes_eq name) (before ++ name ∷ after) ≡ Some (length before)
place_of name before after absent =
    let all = before ++ name ∷ after in
    let place : position_or_len (bytes_eq name) all ≡ length before =
    position_or_len_is (bytes_eq name) all (length before) [] (omega (arith, length-append before (name ∷ after)))
    (λ k below. ap (bytes_eq name) (get_or-append before (name ∷ after) [] k below) ∙ differs (get_or before k []) (In-get_or before k [] below))
    (λ inside. ap (bytes_eq name) (get_or-append_seam before name after []) ∙ (bytes_eq-Decides name name).1 refl) in
    let inside : nat_lt (length before) (length all) ≡ true = lt-ltb (length before) (length all) (omega (arith, length-append before (name ∷ after))) in
    ap (λ (k : ℕ). cond (nat_lt k (length all)) (Some k) None) place ∙ ap (λ (t : Bool). cond t (Some (length before)) None) inside
  where
    differs : (n : List ℕ) → In n before → bytes_eq name n ≡ false
    differs n h = by_test (bytes_eq name n) refl
      where
        by_test : (t : Bool) → bytes_eq name n ≡ t → bytes_eq name n ≡ false
        by_test false e = e
        by_test true e = absurd (absent (subst (λ (m : List ℕ). In m before) (sym ((bytes_eq-Decides name n).0 e)) h))

pub takes_equiv-is : (tech classes : List ℕ) (uses : List ArrayUse) (done : List NodeRec) (node : NodeRec) (before so_far : List (List ℕ))
    (owners more : List ℕ)
    (outline : Outline) (is_last : Bool) (alias : List ℕ) → length owners ≡ length before → (In node.name before → ⊥)
    → is_among alias (before ++ node.name ∷ so_far) ≡ false
    → takes outline is_last (made true tech classes uses (done ++ node ∷ []) (before ++ node.name ∷ so_far) (owners ++ length done ∷ more) [] [])
    (Equiv node.name alias)
    ≡ Ok (made true tech classes uses (done ++ named_too alias node ∷ []) (before ++ node.name ∷ (so_far ++ alias ∷ []))
    (owners ++ length done ∷ (more ++ length done ∷ [])) [] [])
takes_equiv-is tech classes uses done node before so_far owners more outline is_last alias count absent new =
    let place = place_of node.name before so_far absent in
    let owner : slice_index (owners ++ length done ∷ more) (length before) ≡ length done =
    ap (slice_index (owners ++ length done ∷ more)) (sym count) ∙ get_or-append_seam owners (length done) more 0 in
    let renamed : with_alias_at (length done) (done ++ node ∷ []) alias ≡ done ++ named_too alias node ∷ [] =
    ap (λ n. slice_set (done ++ node ∷ []) (length done) (named_too alias n)) (get_or-append_seam done node [] no_node)
    ∙ set-append_seam done node [] (named_too alias node) in
    let names = append_assoc before (node.name ∷ so_far) (alias ∷ []) in
    let owned = append_assoc owners (length done ∷ more) (length done ∷ []) in
    let taken : takes_equiv (made true tech classes uses (done ++ node ∷ []) (before ++ node.name ∷ so_far) (owners ++ length done ∷ more) [] [])
    node.name alias
    ≡ Ok (made true tech classes uses (with_alias_at (length done) (done ++ node ∷ []) alias) ((before ++ node.name ∷ so_far) ++ alias ∷ [])
    ((owners ++ length done ∷ more) ++ length done ∷ []) [] []) =
    rw (new, place, owner) refl in
    taken ∙ (ap (λ l. Ok (made true tech classes uses l ((before ++ node.name ∷ so_far) ++ alias ∷ [])
    ((owners ++ length done ∷ more) ++ length done ∷ []) [] [])) renamed
    ∙ (ap (λ l. Ok (made true tech classes uses (done ++ named_too alias node ∷ []) l ((owners ++ length done ∷ more) ++ length done ∷ []) [] [])) names
    ∙ ap (λ l. Ok (made true tech classes uses (done ++ named_too alias node ∷ []) (before ++ node.name ∷ (so_far ++ alias ∷ [])) l [] [])) owned))

-- a transistor
fet_from-said : (fet : FetRec) → IsWrittenFet fet → fet_from (fet_said fet) ≡ Ok fet
fet_from-said fet is =
    let point : point_in (corners_said fet) ≡ Ok (fet.x, fet.y) =
    rw (
      short_in-short fet.x is.x,
      short_in-short fet.y is.y,
      short_in-short (fet.x +ℤ pos 1) (next_fits fet.x is.x is.x_below_edge),
      short_in-short (fet.y +ℤ pos 1) (next_fits fet.y is.y is.y_below_edge),
    ) refl in
    let terminals : terms_from [] (map side_said fet.terminals) ≡ Ok fet.terminals = terms_from-terms [] fet.terminals is.terminals in
    rw (point, measure_in-measure fet.area is.area, measure_in-measure fet.perimeter is.perimeter, term_in-term fet.gate is.gate.1, terminals) refl

pub takes_fet-is : (begun : Bool) (tech classes : List ℕ) (uses : List ArrayUse) (nodes : List NodeRec) (names : List (List ℕ)) (owners : List ℕ)
    (done : List FetRec)
    (outline : Outline) (is_last : Bool) (fet : FetRec) → IsWrittenFet fet → has_its_nodes names fet ≡ true
    → takes outline is_last (made begun tech classes uses nodes names owners done []) (Fet (fet_said fet))
    ≡ Ok (made true tech classes uses nodes names owners (done ++ fet ∷ []) [])
takes_fet-is begun tech classes uses nodes names owners done outline is_last fet is its = rw (fet_from-said fet is, its) refl

-- a row of merges
merge_from-said : (row : MergeRow) → IsWrittenMerge row → merge_from (merge_said row) (range_in (Some Two) (row_path row.second row.count)) ≡ Ok row
merge_from-said row is =
    let word = row_path row.second row.count in
    let measures : measures_in (numerals_of row.measures) ≡ Ok row.measures = measures_from-numerals [] row.measures is.measures in
    let made : List ℕ → ℕ → Result MergeRow ExtReadFault =
    λ second count. Ok (record { first = row.first; second = second; count = count; cap = row.cap; measures = row.measures }) in
    let second = second_of word (range_of word) in
    let count = count_of (range_of word) in
    let whole : MergeRow → Result MergeRow ExtReadFault = λ r. Ok r in
    ap (λ found. and_then found (λ cap. and_then (measures_in (numerals_of row.measures)) (λ measures.
    whole (record { first = row.first; second = second; count = count; cap = cap; measures = measures })))) (measure_in-measure row.cap is.cap)
    ∙ (ap (λ found. and_then found (λ measures.
    whole (record { first = row.first; second = second; count = count; cap = row.cap; measures = measures }))) measures
    ∙ (ap (λ (s : List ℕ). made s count) is.second.second_is ∙ ap (made row.second) is.second.count_is))

pub takes_merge-is : (begun : Bool) (tech classes : List ℕ) (uses : List ArrayUse) (nodes : List NodeRec) (names : List (List ℕ)) (owners : List ℕ)
    (fets : List FetRec)
    (done : List MergeRow) (outline : Outline) (is_last : Bool) (row : MergeRow) → IsWrittenMerge row → length row.measures ≡ length classes
    → leads (names_in outline.all) names row.first ≡ true → all_lead (names_in outline.all) names row.second row.count ≡ true
    → takes outline is_last (made begun tech classes uses nodes names owners fets done) (Merge (merge_said row))
    ≡ Ok (made true tech classes uses nodes names owners fets (done ++ row ∷ []))
takes_merge-is begun tech classes uses nodes names owners fets done outline is_last row is same one two =
    let elements = names_in outline.all in
    let draft = made true tech classes uses nodes names owners fets done in
    let range = range_in (Some Two) (row_path row.second row.count) in
    let added : MergeRow → Result Draft ExtReadFault = λ r.
    cond (leads elements names r.first && all_lead elements names r.second r.count) (Ok (record draft { merges = done ++ r ∷ [] })) (Err NoName) in
    let both = and_from (leads elements names row.first) (all_lead elements names row.second row.count) one two in
    ap (λ (t : Bool). cond (not (t && true)) (Err BadLine) (and_then (merge_from (merge_said row) range) added)) (counts row.measures classes same)
    ∙ (ap (λ found. and_then found added) (merge_from-said row is)
    ∙ ap (λ (t : Bool). cond t (Ok (record draft { merges = done ++ row ∷ [] })) (Err NoName)) both)
