use Rattle.run_plane.proofs.Common.{◌≡◌, ◌+◌, ◌<◌, ℕ, List, [], length, get_or, sym, ◌∙◌, ap, subst, arith, rules, Option, Some, get_or_default}
use Rattle.run_plane.proofs.Common.{Rect, joined_rect, Run, Row, edge, AreRuns, no_row, IsRowBox}
use Rattle.run_plane.proofs.BoxLaws.{BoxUpTo, box_kept, box_begun, box_grown, box_whole, ordered}
use Rattle.run_plane.proofs.listings.box_of.Goals as goal
use Rattle.run_plane.proofs.listings.box_of.Goals.{in-Some+in-Some-found, in-Some+in-None, in_default}

pub row_box-requires : goal.row_box-requires
row_box-requires c =
    let rows = c.args.rows.now in
    let k = c.loop-index.index in
    let p : k < length rows = omega arith in
    let runs : c.items.result.now ≡ (get_or rows k no_row).runs = c.items.ensures ∙ ap (λ (r : Row). r.runs)
    (c.index-rows-index.is ∙ get_or_default rows k c.index-rows-index.result no_row p) in
    subst (AreRuns edge) (sym runs) (ordered rows c.requires k p)

pub loop-index-preserved : goal.loop-index-preserved
loop-index-preserved c =
    let rows = c.args.rows.now in
    let k = c.loop-index.index in
    let q : k + 1 < length rows = omega arith in
    let p : k < length rows = omega arith in
    let same : c.index-rows-index.result ≡ get_or rows k no_row = c.index-rows-index.is ∙ get_or_default rows k c.index-rows-index.result no_row p in
    let runs : c.items.result.now ≡ (get_or rows k no_row).runs = c.items.ensures ∙ ap (λ (r : Row). r.runs) same in
    let next : c.index-rows-index-in-loop-index.result ≡ get_or rows (k + 1) no_row = c.index-rows-index-in-loop-index.is ∙ get_or_default rows (k + 1)
    c.index-rows-index-in-loop-index.result no_row q in
    let row_is : (area : Rect) → IsRowBox c.items.result.now c.index-rows-index.result.ylo c.index-rows-index-in-loop-index.result.ylo area
    → IsRowBox (get_or rows k no_row).runs (get_or rows k no_row).ylo (get_or rows (k + 1) no_row).ylo area = λ area is.
    subst (λ (v : List Run). IsRowBox v (get_or rows k no_row).ylo (get_or rows (k + 1) no_row).ylo area) runs
    (subst (λ (r : Row). IsRowBox c.items.result.now r.ylo (get_or rows (k + 1) no_row).ylo area) same
    (subst (λ (r : Row). IsRowBox c.items.result.now c.index-rows-index.result.ylo r.ylo area) next is)) in
    let Holds : ℕ → Option Rect → Type 0 = λ n found. BoxUpTo rows n found in
    elim c.match-row_box.branch [
      | in-Some+in-Some-found w ↦ (
          let area = w.in-Some.area in
          let old = w.in-Some-found.old in
          let is : c.match-row_box.found ≡ Some (joined_rect old area) = search rules in
          let box : IsRowBox c.items.result.now c.index-rows-index.result.ylo c.index-rows-index-in-loop-index.result.ylo area = search rules in
          subst (Holds (k + 1)) (sym is) (box_grown rows c.requires k old area q (row_is area box) (subst (Holds k) w.in-Some-found.is c.loop-index.invariant)))
      | in-Some+in-None w ↦ (
          let area = w.in-Some.area in
          let is : c.match-row_box.found ≡ Some area = search rules in
          let box : IsRowBox c.items.result.now c.index-rows-index.result.ylo c.index-rows-index-in-loop-index.result.ylo area = search rules in
          subst (Holds (k + 1)) (sym is) (box_begun rows c.requires k area q (row_is area box) (subst (Holds k) w.in-None.is c.loop-index.invariant)))
      | in_default w ↦ (
          let is : c.match-row_box.found ≡ c.loop-index.found = search rules in
          let empty : c.items.result.now ≡ [] = search rules in
          subst (Holds (k + 1)) (sym is) (box_kept rows c.requires k c.loop-index.found q (sym runs ∙ empty) c.loop-index.invariant))
    ]

pub returns : goal.returns
returns c =
    let rows = c.args.rows.now in
    let end = c.loop-index-test.false in
    box_whole rows c.requires c.loop-index.index c.loop-index.found (omega arith) c.loop-index.invariant
