use Rattle.std.proofs.Common.{◌≡◌, ◌≢◌, length, get_or, sym, ◌∙◌, ap, inl, inr, arith, true, false, Bool, cond, eqb, rules, eq-eqb}
use Rattle.std.specs.Prelude.{Some, None, List, slice_get}
use Rattle.std.proofs.lemmas.Bool.{cases_lt, cases_Bool, eqb-true}
use Rattle.std.proofs.lemmas.Option.{slice_get-get_or, get_or_from_slice_get, same_Some, slice_get_within}
use Rattle.ext_model.specs.declared.records.CellExt.{CellExt}
use Rattle.circuit_model.specs.declared.faults.FlatFault.TheVariants.{Classes}
use Rattle.circuit_model.specs.Elements.{Element, elements_of}
use Rattle.circuit_model.specs.Refusals.{class_fault}
use Rattle.element_tree.specs.declared.tree.TreeElement.{TreeElement}
use Rattle.flat_limits.proofs.TreeLaws.{cell_within, record_at, no_first_fault, first_fault_at, no_flat}
use Rattle.flat_limits.proofs.classes.check_classes.Goals as goal

same_classes : (top : CellExt) (element : Element) → length element.ext.classes ≡ length top.classes → class_fault top element ≡ None
same_classes top element same = ap (λ (t : Bool). cond t None (Some (Classes element.ext.cell)))
    (eq-eqb (length element.ext.classes) (length top.classes) same)

other_classes : (top : CellExt) (element : Element) → length element.ext.classes ≢ length top.classes
    → class_fault top element ≡ Some (Classes element.ext.cell)
other_classes top element apart = elim (cases_Bool (eqb (length element.ext.classes) (length top.classes))) [
  | inl same ↦ absurd (apart (eqb-true (length element.ext.classes) (length top.classes) same))
  | inr differ ↦ ap (λ (t : Bool). cond t None (Some (Classes element.ext.cell))) differ
]

pub bounds-exts-element : goal.bounds-exts-element
bounds-exts-element c =
    let flats = c.items-element-items.result.now in
    let i = c.loop-element.element-index in
    let has = ap (λ (l : List TreeElement). slice_get l i) (sym c.items-element-items.ensures) ∙ slice_get-get_or flats i no_flat c.loop-element-test.true in
    cell_within _ _ c.args.tree.now c.requires.root c.requires.tree (get_or flats i no_flat) i has

pub offset_bounds-exts-element : goal.offset_bounds-exts-element
offset_bounds-exts-element c = let within = bounds-exts-element c in search rules

pub returns-then-items-classes-clause-fault : goal.returns-then-items-classes-clause-fault
returns-then-items-classes-clause-fault c = elim c.class_fault.ensures [
  | inl memory ↦ inl memory
  | inr classes ↦ inr (λ top is.
      (let exts = c.args.exts.now in
      let i = c.loop-element.element-index in
      let ext = c.index-exts-element.result in
      let here = record_at exts c.args.root c.args.tree.now c.requires.root c.requires.tree c.items-element-items.result.now
      c.items-element-items.ensures i c.loop-element-test.true ext c.index-exts-element.is top is in
      let first : get_or exts c.args.root c.index-exts-root.result ≡ top =
      get_or_from_slice_get exts c.args.root top c.index-exts-root.result is in
      first_fault_at (class_fault top) (elements_of exts top) i here.element c.class_fault.result here.is
      (λ j other less at. same_classes top other (c.loop-element.invariant top is j other less at))
      (other_classes top here.element (λ same. c.if-items-classes.true
      (ap length (c.items.ensures ∙ ap (λ (e : CellExt). e.classes) (sym here.has)) ∙ same
      ∙ ap (λ (e : CellExt). length e.classes) (sym first) ∙ ap length (sym c.items-classes.ensures)))
      ∙ ap Some (ap (λ (e : CellExt). Classes e.cell) here.has ∙ sym classes))))
]

pub loop-element-preserved : goal.loop-element-preserved
loop-element-preserved c top is number element less at = elim (cases_lt number c.loop-element.element-index) [
  | inl below ↦ c.loop-element.invariant top is number element below at
  | inr past ↦
      (let exts = c.args.exts.now in
      let i = c.loop-element.element-index in
      let here = record_at exts c.args.root c.args.tree.now c.requires.root c.requires.tree c.items-element-items.result.now
      c.items-element-items.ensures i c.loop-element-test.true c.index-exts-element.result c.index-exts-element.is top is in
      let first : get_or exts c.args.root c.index-exts-root.result ≡ top =
      get_or_from_slice_get exts c.args.root top c.index-exts-root.result is in
      let last : number ≡ i = omega (arith, less, past) in
      let one : element ≡ here.element = same_Some element here.element
      (sym at ∙ ap (slice_get (elements_of exts top)) last ∙ here.is) in
      ap (λ (e : Element). length e.ext.classes) one ∙ ap (λ (e : CellExt). length e.classes) here.has
      ∙ ap length (sym c.items.ensures) ∙ c.if-items-classes.false ∙ ap length c.items-classes.ensures
      ∙ ap (λ (e : CellExt). length e.classes) first)
]

pub returns-clause-alike : goal.returns-clause-alike
returns-clause-alike c top is =
    let exts = c.args.exts.now in
    let past = c.loop-element-test.false in
    let long = (c.requires.tree top is).long in
    let items : length c.items-element-items.result.now ≡ length c.args.tree.now.elements = ap length c.items-element-items.ensures in
    no_first_fault (class_fault top) (elements_of exts top)
    (λ k element at. (let within = slice_get_within (elements_of exts top) k element at in
    same_classes top element (c.loop-element.invariant top is k element (omega (arith, past, long, items, within)) at)))
