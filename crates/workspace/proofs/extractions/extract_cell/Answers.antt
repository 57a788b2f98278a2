use Rattle.workspace.proofs.Common.{◌≡◌, ◌<◌, List, Some, length, map, sym, subst, All, flat_map, LibraryParts, seen, Extracted, Agrees, Extracts}
use Rattle.workspace.proofs.Common.{HasLawfulRecord, kept_store, told_lines}
use Rattle.workspace.proofs.ExtractionLaws.{extraction_told, told_kept, told_there_all}
use Rattle.library_answers.proofs.UncleanLaws.{offending_planes, unclean_is_cell}
use Rattle.workspace.proofs.extractions.extract_cell.Goals as goal

pub records_made-requires-clause-cells : goal.records_made-requires-clause-cells
records_made-requires-clause-cells c =
    let library = c.reader-library.result in
    let there = subst (λ (l : LibraryParts). c.args.cell.0 < length l.contents) (sym c.reader-library.ensures) c.requires.cell in
    subst (λ (told : List Extracted). All (λ (one : Extracted). one.cell.0 < length library.contents) told) (sym c.as_slice.ensures.value)
    (told_there_all library c.args.edited.now.cache c.args.cell.0 c.extract_root.new.cache c.in-Ok.made.items c.in-Ok.ensures.extracted c.lawful.ensures
    there)

pub records_made-requires-clause-kept : goal.records_made-requires-clause-kept
records_made-requires-clause-kept c =
    subst (λ (told : List Extracted). All (HasLawfulRecord c.extract_root.new.cache) told) (sym c.as_slice.ensures.value)
    (told_kept c.reader-library.result c.args.edited.now.cache c.args.cell.0 c.extract_root.new.cache c.in-Ok.made.items c.in-Ok.ensures.extracted
    c.extract_root.ensures.agrees)

pub returns-in_ok-extraction-in-Ok-clause-extracted : goal.returns-in_ok-extraction-in-Ok-clause-extracted
returns-in_ok-extraction-in-Ok-clause-extracted c =
    let library = c.args.edited.now.library in
    let records = c.args.edited.now.cache in
    let after = c.extract_root.new.cache in
    let told = c.in-Ok.made.items in
    let extraction = c.in_ok-extraction-in-Ok.extraction in
    let extracts = subst (λ (l : LibraryParts). Extracts l records c.args.cell.0 after told) c.reader-library.ensures c.in-Ok.ensures.extracted in
    let agrees = subst (λ (l : LibraryParts). Agrees l after) c.reader-library.ensures c.extract_root.ensures.agrees in
    let lines : extraction.lines ≡ flat_map (told_lines (seen library)) told =
    rw (c.as_slice.ensures.value, c.reader-library.ensures) at c.in_ok-extraction-in-Ok.ensures.lines in
    let stores : map (λ store. Some store) extraction.stores ≡ map (kept_store (seen library) after) told =
    rw (c.as_slice.ensures.value, c.reader-library.ensures) at c.in_ok-extraction-in-Ok.ensures.stores in
    let count : extraction.count ≡ length told = rw c.as_slice.ensures.value at c.in_ok-extraction-in-Ok.ensures.count in
    extraction_told library records c.args.cell.0 after told extracts c.args.edited.now.current c.args.edited.now.log c.args.number extraction agrees lines
    stores count

pub unclean_lines-requires-clause-cell : goal.unclean_lines-requires-clause-cell
unclean_lines-requires-clause-cell c =
    let found = c.in-Err-Unclean.found in
    let there = subst (λ (l : LibraryParts). c.args.cell.0 < length l.contents) (sym c.reader-library.ensures) c.requires.cell in
    let unclean = rw c.in-Err-Unclean.field-0-is at c.in-Err-Unclean.ensures.unclean in
    unclean_is_cell c.reader-library.result c.lawful.ensures c.args.cell.0 found.cell.0 found.squares there unclean

pub unclean_lines-requires-clause-planes : goal.unclean_lines-requires-clause-planes
unclean_lines-requires-clause-planes c =
    let found = c.in-Err-Unclean.found in
    let unclean = rw c.in-Err-Unclean.field-0-is at c.in-Err-Unclean.ensures.unclean in
    offending_planes (seen c.reader-library.result) found.cell.0 found.squares unclean.are_squares
