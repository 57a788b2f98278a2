use Rattle.layout_gen.proofs.Common.{ap, ◌∙◌, sym, subst, inl, inr, refl, Some, seen, GenerateFault, IsGenerated}
use Rattle.cell_library.specs.Libraries.{edits_of}
use Rattle.layout_gen.proofs.Additions.{can_be_added, generated, refused_for, three_cells}
use Rattle.layout_gen.proofs.Refusals.{edits_told, none_told}
use Rattle.layout_gen.proofs.generating.generate.Goals as goal

pub add_all-requires : goal.add_all-requires
add_all-requires c =
    can_be_added c.args.library.now c.lawful.ensures c.in_ok-layers.layers c.args.n c.requires.some c.requires.few c.in_ok-cells.cells.items
    c.in_ok-layers.ensures.new c.in_ok-layers.ensures.layers c.in_ok-layers.ensures.room c.in_ok-cells.ensures

pub returns-in-Ok-clause-generated : goal.returns-in-Ok-clause-generated
returns-in-Ok-clause-generated c =
    subst (IsGenerated (seen c.args.library.now) c.args.n) (sym c.in-Ok.ensures.added)
    (generated c.args.library.now c.lawful.ensures c.in_ok-layers.layers c.args.n c.requires.some c.requires.few c.in_ok-cells.cells.items
    c.in_ok-layers.ensures.new c.in_ok-layers.ensures.layers c.in_ok-layers.ensures.room c.in_ok-cells.ensures)

pub returns-in-Ok-clause-edit : goal.returns-in-Ok-clause-edit
returns-in-Ok-clause-edit c = record {
  cells = c.in_ok-cells.cells.items;
  three = three_cells c.args.library.now c.lawful.ensures c.in_ok-layers.layers c.args.n c.requires.some c.requires.few c.in_ok-cells.cells.items
      c.in_ok-layers.ensures.new c.in_ok-layers.ensures.layers c.in_ok-layers.ensures.room c.in_ok-cells.ensures;
  next = c.in-Ok.ensures.edit;
  after = c.in-Ok.ensures.added;
}

pub returns-in-Ok-clause-unrefused : goal.returns-in-Ok-clause-unrefused
returns-in-Ok-clause-unrefused c =
    none_told c.args.library.now c.in_ok-layers.layers (edits_of c.args.library.now) c.in_ok-layers.ensures.new c.in_ok-layers.ensures.layers
    c.in_ok-layers.ensures.room (λ full. c.in-Ok.ensures.answers _ (inl (full, refl)))

pub fault_of-requires : goal.fault_of-requires
fault_of-requires c =
    elim (refused_for c.args.library.now c.lawful.ensures c.in_ok-layers.layers c.args.n c.requires.some c.requires.few c.in_ok-cells.cells.items
    c.in_ok-layers.ensures.new c.in_ok-layers.ensures.layers c.in_ok-layers.ensures.room c.in_ok-cells.ensures (edits_of c.args.library.now)
    c.in-Err.fault c.in-Err.ensures.answers) [
      | inl memory ↦ inl memory
      | inr full ↦ inr full.1
    ]

pub returns-in-Err-clause-told : goal.returns-in-Err-clause-told
returns-in-Err-clause-told c =
    elim (refused_for c.args.library.now c.lawful.ensures c.in_ok-layers.layers c.args.n c.requires.some c.requires.few c.in_ok-cells.cells.items
    c.in_ok-layers.ensures.new c.in_ok-layers.ensures.layers c.in_ok-layers.ensures.room c.in_ok-cells.ensures (edits_of c.args.library.now)
    c.in-Err.fault c.in-Err.ensures.answers) [
      | inl memory ↦ inl (c.fault_of.ensures.memory memory)
      | inr full ↦
          inr (edits_told c.args.library.now c.in_ok-layers.layers (edits_of c.args.library.now) c.in_ok-layers.ensures.new
          c.in_ok-layers.ensures.layers c.in_ok-layers.ensures.room full.0 ∙ ap (λ (told : GenerateFault). Some told) (sym (c.fault_of.ensures.edits full.1)))
    ]
