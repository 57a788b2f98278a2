use Rattle.full_names.proofs.Common.{◌≡◌, ◌+◌, ◌<◌, ℕ, length, get_or, subst, ap, ◌∙◌, arith, slice_get, slice_index, get_or_read, FullNames}
use Rattle.full_names.proofs.Common.{IsSpotOf, AreNames}
use Rattle.full_names.proofs.QueryLaws.{number_within, slot_within, slot_in_standings, standing_within, local_number, global_number}
use Rattle.full_names.proofs.names.FullNames.number.Goals as goal

-- where the element's names begin
base_read : (names : FullNames) → AreNames names → (number base : ℕ) → number < length names.tree.now.elements
    → base ≡ get_or names.bases.items number base → base ≡ slice_index names.bases.items number
base_read names are number base within read = let long = are.places.long in get_or_read names.bases.items number base (omega arith) read 0

pub overflow_add-index : goal.overflow_add-index
overflow_add-index c =
    let names = c.args.self.now in
    let are = c.requires.names in
    let spot = c.requires.spot in
    let here = subst (IsSpotOf names spot.flat.cell spot.name) c.in-Local.is spot.is_spot in
    let base = base_read names are c.args.element c.index.result.now (number_within names are c.args.element spot.element spot.flat spot.are) c.index.ensures in
    let within = slot_within names are c.args.element spot.element spot.flat spot.are spot.name c.in-Local.own here in
    omega (arith, base, within, names.places.ok.0, names.places.ok.1, names.places.small)

pub index-requires-in-Local : goal.index-requires-in-Local
index-requires-in-Local c =
    let names = c.args.self.now in
    let are = c.requires.names in
    let spot = c.requires.spot in
    let here = subst (IsSpotOf names spot.flat.cell spot.name) c.in-Local.is spot.is_spot in
    let base = base_read names are c.args.element c.index.result.now (number_within names are c.args.element spot.element spot.flat spot.are) c.index.ensures in
    let within = slot_in_standings names are c.args.element spot.element spot.flat spot.are spot.name c.in-Local.own here in
    omega (arith, base, within, names.standings.ok.0)

pub overflow_add-result : goal.overflow_add-result
overflow_add-result c =
    let names = c.args.self.now in
    let are = c.requires.names in
    let spot = c.requires.spot in
    let own = c.in-Local.own in
    let here = subst (IsSpotOf names spot.flat.cell spot.name) c.in-Local.is spot.is_spot in
    let base = base_read names are c.args.element c.index.result.now (number_within names are c.args.element spot.element spot.flat spot.are) c.index.ensures in
    let room = slot_in_standings names are c.args.element spot.element spot.flat spot.are spot.name own here in
    let standing = c.index-in-Local.ensures ∙ ap (λ (n : ℕ). get_or names.standings.items (n + own) c.index-in-Local.result.now) base in
    let told = get_or_read names.standings.items (slice_index names.bases.items c.args.element + own) c.index-in-Local.result.now room standing 0 in
    let within = standing_within names are c.args.element spot.element spot.flat spot.are spot.name own here in
    omega (
      arith,
      told,
      within,
      c.len.ensures,
      names.globals.ok.0,
      names.globals.ok.1,
      names.globals.small,
      names.slots.ok.0,
      names.slots.ok.1,
      names.slots.small,
    )

pub returns-in-Local : goal.returns-in-Local
returns-in-Local c =
    let names = c.args.self.now in
    let are = c.requires.names in
    let own = c.in-Local.own in
    λ list full element flat name at spot.
    let here = subst (IsSpotOf names flat.cell name) c.in-Local.is spot in
    let base = base_read names are c.args.element c.index.result.now (number_within names are c.args.element element flat at) c.index.ensures in
    let room = slot_in_standings names are c.args.element element flat at name own here in
    let standing = c.index-in-Local.ensures ∙ ap (λ (n : ℕ). get_or names.standings.items (n + own) c.index-in-Local.result.now) base in
    let told = get_or_read names.standings.items (slice_index names.bases.items c.args.element + own) c.index-in-Local.result.now room standing 0 in
    ap (slice_get list) (λ i. (c.len.ensures ∙ names.globals.ok.0) i + told i) ∙ local_number names are c.args.element element flat at name own here list full

pub returns-in-Global : goal.returns-in-Global
returns-in-Global c =
    λ list full element flat name at spot.
    global_number c.args.self.now c.requires.names c.args.element element flat at name c.in-Global.place
    (subst (IsSpotOf c.args.self.now flat.cell name) c.in-Global.is spot) list full
