use Rattle.flatten.proofs.Common.{◌≤◌, List, ◌++◌, length, map, take, sym, ◌∙◌, ap, subst, arith, rules, All, FetRec, CellExt, IsLawfulFet, Element}
use Rattle.flatten.proofs.Common.{fets_of, ElementTree, elements_in, FetSpots, GivesFets, AreFetSpotsOf, element_at, cell_at, no_element, take_all}
use Rattle.flatten.proofs.SpotLaws.{element_read, spots_read, spots_within}
use Rattle.flatten.proofs.NameClasses.TreeLaws.{tree_of_names}
use Rattle.flatten.proofs.FetLaws.{fets_more, gives_both, gives_none}
use Rattle.flatten.proofs.fets.give_flat_fets.Goals as goal

pub bounds-exts-element : goal.bounds-exts-element
bounds-exts-element g c =
    (element_read c.requires.names c.requires.exts c.requires.tree c.items-element-items.ensures c.loop-number-test.true).within

pub offset_bounds-exts-element : goal.offset_bounds-exts-element
offset_bounds-exts-element g c =
    let read = element_read c.requires.names c.requires.exts c.requires.tree c.items-element-items.ensures c.loop-number-test.true in
    let within = read.within in
    search rules

pub bounds-spots-element : goal.bounds-spots-element
bounds-spots-element g c =
    let read = element_read c.requires.names c.requires.exts c.requires.tree c.items-element-items.ensures c.loop-number-test.true in
    spots_within c.requires.spots c.requires.exts read

pub offset_bounds-spots-element : goal.offset_bounds-spots-element
offset_bounds-spots-element g c =
    let read = element_read c.requires.names c.requires.exts c.requires.tree c.items-element-items.ensures c.loop-number-test.true in
    let within = spots_within c.requires.spots c.requires.exts read in
    search rules

pub give_fets-requires-clause-element : goal.give_fets-requires-clause-element
give_fets-requires-clause-element g c =
    (element_read c.requires.names c.requires.exts c.requires.tree c.items-element-items.ensures c.loop-number-test.true).here.within

pub give_fets-requires-clause-fets : goal.give_fets-requires-clause-fets
give_fets-requires-clause-fets g c =
    let names = c.args.names.now in
    let number = c.loop-number.number in
    let read = element_read c.requires.names c.requires.exts c.requires.tree c.items-element-items.ensures c.loop-number-test.true in
    let fets = c.items-fets.ensures ∙ ap (λ (e : CellExt). e.fets) (read.ext _) in
    subst (All (IsLawfulFet (element_at names number).ext)) (sym fets) read.lawful.fets

pub give_fets-requires-clause-spots : goal.give_fets-requires-clause-spots
give_fets-requires-clause-spots g c =
    let names = c.args.names.now in
    let number = c.loop-number.number in
    let read = element_read c.requires.names c.requires.exts c.requires.tree c.items-element-items.ensures c.loop-number-test.true in
    let fets = c.items-fets.ensures ∙ ap (λ (e : CellExt). e.fets) (read.ext _) in
    let spots = spots_read c.requires.spots c.requires.exts read c.index-spots-element.result in
    let P : List FetRec → Type 0 = λ l. AreFetSpotsOf names (cell_at names number) l c.items-ends.result.now in
    let Q : List FetSpots → Type 0 = λ l. AreFetSpotsOf names (cell_at names number) (element_at names number).ext.fets l in
    subst P (sym fets) (subst Q (sym c.items-ends.ensures) spots.fets)

pub loop-number-init : goal.loop-number-init
loop-number-init g c = gives_none g.S.FetSink.has c.args.nodes.now c.args.sink.now

pub loop-number-preserved : goal.loop-number-preserved
loop-number-preserved g c =
    let names = c.args.names.now in
    let number = c.loop-number.number in
    let read = element_read c.requires.names c.requires.exts c.requires.tree c.items-element-items.ensures c.loop-number-test.true in
    let fets = c.items-fets.ensures ∙ ap (λ (e : CellExt). e.fets) (read.ext _) in
    let have = g.S.FetSink.has in
    let P : List (Element × FetRec) → Type 0 = λ l. GivesFets have c.args.nodes.now l c.args.sink.now c.give_fets.new.sink in
    let before = fets_of (take number (elements_in names)) in
    let f : FetRec → Element × FetRec = λ fet. (element_at names number, fet) in
    subst P (ap (λ (l : List FetRec). before ++ map f l) fets ∙ fets_more (elements_in names) number no_element read.here.within)
    (gives_both have c.args.nodes.now before (map f c.items-fets.result.now) c.args.sink.now c.loop-number.sink c.give_fets.new.sink c.loop-number.invariant
    c.in_ok-give_fets.ensures)

pub returns : goal.returns
returns g c =
    let names = c.args.names.now in
    let all = c.items-element-items.ensures ∙ ap (λ (tree : ElementTree). tree.elements) c.requires.tree in
    let many = ap length all in
    let long = (tree_of_names names c.requires.names).long in
    let number = c.loop-number.number in
    let past : length (elements_in names) ≤ number = omega (arith, many, long, c.loop-number-test.false) in
    subst (λ (l : List Element). GivesFets g.S.FetSink.has c.args.nodes.now (fets_of l) c.args.sink.now c.loop-number.sink)
    (take_all number (elements_in names) past) c.loop-number.invariant
