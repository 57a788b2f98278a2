use Rattle.element_index.proofs.BlockLaws.{grid_block}
use Rattle.element_index.proofs.uses.UseElements.block.Goals as goal

pub returns-in-Some : goal.returns-in-Some
returns-in-Some c =
    let form = rw c.in-Some.is at c.requires in
    rw (c.in-Some.is, c.bytes-id.ensures, c.grid_area.ensures) (grid_block c.args.self.now.id c.in-Some.grid form.0 form.1)
