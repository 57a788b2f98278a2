use Rattle.std.proofs.Common.{◌≡◌, ◌<◌, length, List, refl, sym, ◌∙◌, ap, true, Bool, cond, drop, ◌+◌}
use Rattle.std.specs.Prelude.{Some}
use Rattle.std.specs.Str.{bytes_eq}
use Rattle.std.proofs.lemmas.Option.{slice_get_read}
use Rattle.finite_sets.proofs.Searches.{drop_split}
use Rattle.ext_model.specs.declared.records.CellExt.{CellExt}
use Rattle.circuit_model.specs.Elements.{ext_of}
use Rattle.flat_limits.proofs.roots.root_number.Goals as goal

pub returns-then-eq-clause-found : goal.returns-then-eq-clause-found
returns-then-eq-clause-found c =
    let exts = c.args.exts.now in
    let root = c.args.root.now in
    let number = c.loop-number.number in
    let ext = c.index-exts-number.result in
    let inside : number < length exts = c.loop-number-test.true in
    let rest = drop (number + 1) exts in
    let same : bytes_eq ext.cell root ≡ true = (let e : true ≡ bytes_eq c.bytes.result.now c.bytes-in-loop-number.result.now = c.if-eq.ensures in cc) in
    slice_get_read exts (length exts) number ext refl inside c.index-exts-number.is
    ∙ ap (λ (t : Bool). cond t (Some ext) (ext_of rest root)) (sym same)
    ∙ ap (λ (xs : List CellExt). ext_of xs root) (sym (drop_split exts number ext inside c.index-exts-number.is)) ∙ c.loop-number.invariant
