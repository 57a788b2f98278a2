use Rattle.cell_paint.proofs.Common.{◌≡◌, ◌+◌, ◌<◌, ℕ, length, sym, ◌∙◌, subst, arith, rules, Option, get_or_default, Square, Rect, joined_rect}
use Rattle.cell_paint.proofs.Common.{IsBox, PlaneValue, number_on, no_plane}
use Rattle.std.proofs.Common.{Some}
use Rattle.cell_paint.proofs.PlaneLaws.{plane_at, BoxBelow, box_kept, box_begun, box_grown, box_whole}
use Rattle.cell_paint.proofs.planes.box_of.Goals as goal
use Rattle.cell_paint.proofs.planes.box_of.Goals.{in-Some+in-Some-found, in-Some+in-None, in_default}

pub loop-plane-preserved : goal.loop-plane-preserved
loop-plane-preserved c =
    let planes = c.args.planes.now in
    let k = c.loop-plane.plane-index in
    let p : k < length planes = omega arith in
    let same : c.plane-item.result ≡ plane_at planes k = c.plane-item.is ∙ get_or_default planes k c.plane-item.result no_plane p in
    let box_is : (area : Rect) → IsBox (number_on c.plane-item.result) area → IsBox (number_on (plane_at planes k)) area = λ area box.
    subst (λ (plane : PlaneValue). IsBox (number_on plane) area) same box in
    let Holds : ℕ → Option Rect → Type 0 = λ n found. BoxBelow planes n found in
    elim c.match-box_of.branch [
      | in-Some+in-Some-found w ↦ (
          let area = w.in-Some.area in
          let old = w.in-Some-found.old in
          let is : c.match-box_of.found ≡ Some (joined_rect old area) = search rules in
          let box : IsBox (number_on c.plane-item.result) area = search rules in
          subst (Holds (k + 1)) (sym is) (box_grown planes k old area (box_is area box) (subst (Holds k) w.in-Some-found.is c.loop-plane.invariant)))
      | in-Some+in-None w ↦ (
          let area = w.in-Some.area in
          let is : c.match-box_of.found ≡ Some area = search rules in
          let box : IsBox (number_on c.plane-item.result) area = search rules in
          subst (Holds (k + 1)) (sym is) (box_begun planes k area (box_is area box) (subst (Holds k) w.in-None.is c.loop-plane.invariant)))
      | in_default w ↦ (
          let is : c.match-box_of.found ≡ c.loop-plane.found = search rules in
          let empty : (square : Square) → number_on c.plane-item.result square ≡ 0 = search rules in
          subst (Holds (k + 1)) (sym is) (box_kept planes k c.loop-plane.found (subst (λ (plane : PlaneValue). (square : Square) → number_on plane
          square ≡ 0) same empty) c.loop-plane.invariant))
    ]

pub returns : goal.returns
returns c = box_whole c.args.planes.now c.loop-plane.plane-index c.loop-plane.found c.loop-plane-test.false c.loop-plane.invariant
