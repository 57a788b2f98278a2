use Rattle.element_index.proofs.Common.{◌≡◌, ◌≤◌, [], ◌∷◌, ◌++◌, inl, inr, length, refl, sym, arith, length-append, MOST_IDS, stands_where_found}
use Rattle.element_index.proofs.Common.{stands_nowhere}
use Rattle.element_index.proofs.IdLaws.{new_id, last_id, there_In}
use Rattle.element_index.proofs.index.number_of.Goals as goal

pub returns-in-Some-clause-number : goal.returns-in-Some-clause-number
returns-in-Some-clause-number c = stands_where_found c.args.ids.now c.args.id.now c.in-Some.number (sym c.in-Some.ensures)

pub returns-in-Some-clause-grown : goal.returns-in-Some-clause-grown
returns-in-Some-clause-grown c =
    let ids = c.args.ids.now in
    let id = c.args.id.now in
    inl (there_In ids id c.in-Some.number (stands_where_found ids id c.in-Some.number (sym c.in-Some.ensures)), refl)

pub returns-clause-number : goal.returns-clause-number
returns-clause-number c =
    let ids = c.args.ids.now in
    let id = c.args.id.now in
    let more : c.insert.new.self ≡ ids ++ id ∷ [] = new_id ids c.insert.new.self id (sym c.in_default.ensures) c.in_ok-insert.ensures.names in
    rw (more, c.len-number.ensures) (last_id ids id)

pub returns-clause-grown : goal.returns-clause-grown
returns-clause-grown c =
    let ids = c.args.ids.now in
    let id = c.args.id.now in
    let more : c.insert.new.self ≡ ids ++ id ∷ [] = new_id ids c.insert.new.self id (sym c.in_default.ensures) c.in_ok-insert.ensures.names in
    let few : length c.insert.new.self ≤ MOST_IDS =
    rw more (omega (arith, length-append ids (id ∷ []), c.len-number.ensures, c.if-number-ge-MOST_IDS.false)) in
    inr (stands_nowhere ids id (sym c.in_default.ensures), more, few)
