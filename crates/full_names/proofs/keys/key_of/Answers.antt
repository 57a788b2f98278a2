use Rattle.full_names.proofs.Common.{◌<◌, List, length, get_or, sym, ◌∙◌, ap, subst, TreeElement, RecordNames}
use Rattle.full_names.proofs.KeyLaws.{key_read}
use Rattle.full_names.proofs.RecordReads.{record_read, text_read}
use Rattle.full_names.proofs.keys.key_of.Goals as goal

pub returns : goal.returns
returns c =
    let flats = c.args.tree.now.elements in
    let items = c.items.result.now in
    let records = c.args.records.now in
    let place = c.args.place in
    let own = c.index-records-element.result in
    let name = c.index.result.now in
    let is = c.requires.place.is in
    let has = record_read flats items records place.element own c.items.ensures c.requires.cells
    (subst (λ (list : List TreeElement). place.element < length list) (sym c.items.ensures) is.element) c.index-records-element.is in
    let read = c.index.ensures ∙ ap (λ (r : RecordNames). get_or r.locals.items place.own name) (sym c.index-records-element.is) in
    key_read flats items records place c.args.slot name.text.now c.is_generated.result c.items.ensures
    (text_read flats records place own name has is.own read) c.is_generated.ensures
