use Rattle.mag_text.proofs.CellsAgain.{written_read_back}
use Rattle.mag_text.proofs.cell_texts.write_mag.Goals as goal

pub returns-clause-read_back : goal.returns-clause-read_back
returns-clause-read_back c =
    written_read_back c.args.library.now c.lawful.ensures c.args.cell.0 c.requires.cell c.sound.ensures c.cell_text.result c.cell_text.ensures
