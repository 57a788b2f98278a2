use Rattle.std.proofs.Common.{◌≡◌, ℕ, ◌<◌, length, Some}
use Rattle.std.specs.Prelude.{slice_get}
use Rattle.circuit_model.specs.Elements.{Element, elements_of}
use Rattle.ext_model.specs.declared.records.CellExt.{CellExt}
use Rattle.flat_limits.proofs.classes.check_classes.Given as goal

abbrev pub invariant-loop-element : goal.invariant-loop-element
invariant-loop-element l =
    (top : CellExt) → slice_get l.exts l.root ≡ Some top → (number : ℕ) (element : Element) → number < l.element-index
    → slice_get (elements_of l.exts top) number ≡ Some element → length element.ext.classes ≡ length top.classes
