use Rattle.full_names.proofs.Common.{arith}
use Rattle.full_names.proofs.LocalReads.{slot_within, element_listed, record_within, own_within, local_number}
use Rattle.full_names.proofs.names.FullNames.local_name.Goals as goal

pub index-place-requires : goal.index-place-requires
index-place-requires c =
    let places = c.args.self.now.places in
    let within = slot_within c.args.self.now c.requires.names c.args.number c.requires.number c.index.result.now c.index.ensures in
    omega (arith, within, places.ok.0)

pub bounds-items-place : goal.bounds-items-place
bounds-items-place c = element_listed c.args.self.now c.requires.names c.args.number c.requires.number c.index.result.now c.index.ensures
    c.index-place.result.now c.index-place.ensures c.items.result.now c.items.ensures

pub offset_bounds-items-place : goal.offset_bounds-items-place
offset_bounds-items-place c =
    let within = element_listed c.args.self.now c.requires.names c.args.number c.requires.number c.index.result.now c.index.ensures
    c.index-place.result.now c.index-place.ensures c.items.result.now c.items.ensures in
    omega (arith, within, c.items.type_inv.1)

pub index-requires-2 : goal.index-requires-2
index-requires-2 c = record_within c.args.self.now c.requires.names c.args.number c.requires.number c.index.result.now c.index.ensures
    c.index-place.result.now c.index-place.ensures c.items.result.now c.items.ensures

pub index-requires-3 : goal.index-requires-3
index-requires-3 c = own_within c.args.self.now c.requires.names c.args.number c.requires.number c.index.result.now c.index.ensures
    c.index-place.result.now c.index-place.ensures c.items.result.now c.items.ensures c.index-2.result.now c.index-2.ensures

pub returns : goal.returns
returns c = local_number c.args.self.now c.requires.names c.args.number c.requires.number c.index.result.now c.index.ensures
    c.index-place.result.now c.index-place.ensures c.items.result.now c.items.ensures c.index-2.result.now c.index-2.ensures c.index-3.result.now
    c.index-3.ensures
