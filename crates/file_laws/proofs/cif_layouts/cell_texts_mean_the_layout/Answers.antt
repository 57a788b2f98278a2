use Rattle.file_laws.proofs.LibraryMeanings.{cell_texts_mean}
use Rattle.file_laws.proofs.cif_layouts.cell_texts_mean_the_layout.Goals as goal

pub returns : goal.returns
returns c = cell_texts_mean
