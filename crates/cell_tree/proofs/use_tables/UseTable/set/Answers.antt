use Rattle.cell_tree.proofs.Common.{◌<◌, length, ap, sym, subst, ◌∙◌, map, List, ℕ, Vec, Global, arith, length-map, UseBody, UseList, with_use_at}
use Rattle.std.proofs.lemmas.Bool.{false≢true}
use Rattle.cell_tree.specs.declared.use_tables.UseTable.TheInside.{Inside}
use Rattle.cell_tree.proofs.TableLaws.{map-set_value}
use Rattle.cell_tree.proofs.use_tables.UseTable.set.Goals as goal
use Rattle.cell_tree.proofs.use_tables.UseTable.set.Goals.{in-Some, in_default}

pub returns : goal.returns
returns c = elim c.match-get_index_mut.branch [
  | in-Some w ↦
      ap (λ (i : Inside). map (λ (entry : Vec ℕ Global × UseBody). (entry.0.items, entry.1)) i.entries.entries) w.self-inside-is
      ∙ map-set_value c.self.inside.entries.entries c.args.k c.args.used
      ∙ ap (λ (uses : UseList). with_use_at uses.entries c.args.k c.args.used) c.self.view_is
  | in_default w ↦
      let within = subst (λ (uses : UseList). c.args.k < length uses.entries) (sym c.self.view_is) c.requires in
      absurd (false≢true (w.in_default.ensures.found.1
      (omega (arith, within, length-map {B = List ℕ × UseBody} c.self.inside.entries.entries (λ (entry : Vec ℕ Global × UseBody). (entry.0.items, entry.1))))))
]
