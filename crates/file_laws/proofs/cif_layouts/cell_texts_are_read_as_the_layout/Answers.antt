use Rattle.file_laws.proofs.cif_layouts.cell_texts_are_read_as_the_layout.Goals as goal

pub returns : goal.returns
returns c library cell text lawful below is =
    let (cif, says, read) = c.written_texts_are_read.ensures library cell text lawful below is in
    (cif, read, c.cell_texts_mean_the_layout.ensures library cell cif lawful below says)
