use Rattle.name_classes.proofs.Common.{List, ◌∷◌, [], ◌++◌, take, length, refl, sym, subst, slice_get_read, take-slice_get, UseRec, CellExt}
use Rattle.name_classes.proofs.Common.{UseTable, AreUseTables, IsTableOf}
use Rattle.name_classes.proofs.TableLaws.{tables_push}
use Rattle.name_classes.proofs.tables.use_tables.Goals as goal

pub loop-ext-preserved : goal.loop-ext-preserved
loop-ext-preserved c =
    let exts = c.args.exts.now in
    let number = c.loop-ext.ext-index in
    let ext = c.ext-item.result in
    let here = slice_get_read exts (length exts) number ext refl c.loop-ext-test.true c.ext-item.is in
    let P : List CellExt → Type 0 = λ xs. AreUseTables xs c.push.new.self.items in
    let Q : List UseTable → Type 0 = λ ts. AreUseTables (take number exts ++ ext ∷ []) ts in
    let R : List UseRec → Type 0 = λ uses. IsTableOf uses c.in_ok-of.field-0 in
    subst P (sym (take-slice_get exts number ext here))
    (subst Q (sym c.in_ok-push.ensures.items)
    (tables_push (take number exts) ext c.loop-ext.tables.items c.in_ok-of.field-0 c.loop-ext.invariant (subst R c.items.ensures c.in_ok-of.ensures)))
