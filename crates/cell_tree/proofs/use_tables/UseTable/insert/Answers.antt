use Rattle.cell_tree.proofs.Common.{◌<◌, ◌≤◌, length, ap, sym, subst, ◌∙◌, List, ℕ, Vec, Global, arith, insert, length-map, UseBody, UseList}
use Rattle.cell_tree.proofs.Common.{HasIdAt}
use Rattle.cell_tree.proofs.TableLaws.{value_of, lookup_absent, map-inserted, some_or_none}
use Rattle.cell_tree.proofs.use_tables.UseTable.insert.Goals as goal

pub shift_insert-requires-clause-in_bounds : goal.shift_insert-requires-clause-in_bounds
shift_insert-requires-clause-in_bounds c =
    let place = subst (λ (uses : UseList). c.args.k ≤ length uses.entries) (sym c.self.view_is) c.requires.place in
    omega (arith, place, length-map {B = List ℕ × UseBody} c.self.inside.entries.entries (λ (entry : Vec ℕ Global × UseBody). (entry.0.items, entry.1)))

pub shift_insert-requires-clause-below_len : goal.shift_insert-requires-clause-below_len
shift_insert-requires-clause-below_len c there =
    absurd (some_or_none _ there (lookup_absent c.args.id.items c.self.inside.entries.entries
    (λ k has. c.requires.new k (subst (λ (uses : UseList). HasIdAt uses.entries k c.args.id.items) c.self.view_is has))))

pub returns : goal.returns
returns c =
    let room = c.shift_insert.ensures.succeeds (subst (λ (uses : UseList). 0 < uses.spare) (sym c.self.view_is) c.requires.room) in
    let done = value_of c.shift_insert.result _ room c.shift_insert.ensures.entries in
    map-inserted c.self.inside.entries.entries _ c.args.id c.args.used c.args.k done.1
    (λ k has. c.requires.new k (subst (λ (uses : UseList). HasIdAt uses.entries k c.args.id.items) c.self.view_is has))
    (subst (λ (uses : UseList). c.args.k ≤ length uses.entries) (sym c.self.view_is) c.requires.place)
    ∙ ap (λ (uses : UseList). insert uses.entries c.args.k (c.args.id.items, c.args.used)) c.self.view_is
