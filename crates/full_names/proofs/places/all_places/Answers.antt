use Rattle.full_names.proofs.Common.{◌≡◌, ◌∷◌, ◌++◌, [], ℕ, length, sym, ap, ◌∙◌, arith, subst, vec_len, RecordNames, count_at, ArePlacesBelow}
use Rattle.full_names.proofs.PlaceLaws.{places_none, places_more}
use Rattle.full_names.proofs.RecordReads.{record_read, count_read}
use Rattle.full_names.proofs.places.all_places.Goals as goal

pub loop-number-init : goal.loop-number-init
loop-number-init c = places_none (count_at c.args.tree.now.elements c.args.records.now) c.in_ok-bases.bases.items c.new-places.result.items
    c.in_ok-bases.ensures.items c.new-places.ensures.items

pub loop-number-preserved : goal.loop-number-preserved
loop-number-preserved c =
    let flats = c.args.tree.now.elements in
    let records = c.args.records.now in
    let number = c.loop-number.number in
    let own = c.index-records-element.result in
    let places = c.loop-number.places in
    let has = record_read flats c.items-elements.result.now records number own c.items-elements.ensures c.requires c.loop-number-test.true
    c.index-records-element.is in
    let long = c.len-in-loop-number.ensures ∙ ap (λ (r : RecordNames). vec_len r.locals) (sym c.index-records-element.is) in
    places_more (count_at flats records) number c.loop-number.bases.items places.items c.loop-number.invariant c.push.new.self.items
    c.add_places.new.places.items c.len-in-loop-number.result (count_read flats records number own c.len-in-loop-number.result has long)
    (c.in_ok-push.ensures.items ∙ ap (λ (n : ℕ). c.loop-number.bases.items ++ n ∷ []) (c.len.ensures ∙ places.ok.0)) c.in_ok-add_places.ensures

pub returns : goal.returns
returns c =
    let past = c.loop-number-test.false in
    let here = c.loop-number.auto.number-end in
    let all : c.loop-number.number ≡ length c.items-elements.result.now = omega (arith, past, here) in
    subst (λ (n : ℕ). ArePlacesBelow (count_at c.args.tree.now.elements c.args.records.now) n c.loop-number.bases.items c.loop-number.places.items)
    (all ∙ ap length c.items-elements.ensures) c.loop-number.invariant
