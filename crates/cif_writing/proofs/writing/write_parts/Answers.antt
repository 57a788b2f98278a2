use Rattle.cif_writing.proofs.Common.{◌+◌, get_or, arith, err_from_is_err_and, seen, view_at, part_sets, IsPart}
use Rattle.cif_writing.proofs.OneText.{one_part}
use Rattle.cif_writing.proofs.PartLaws.{length-part_sets, part_at, part_some}
use Rattle.cif_writing.proofs.SymbolLaws.{part_too_long, part_written}
use Rattle.cif_writing.proofs.WritingLaws.{passed_on, too_long_at, writes_all, writes_more, writes_none}
use Rattle.cif_writing.proofs.writing.write_parts.Goals as goal

pub loop-place-init : goal.loop-place-init
loop-place-init c =
    let raw = c.args.library.now.tech in
    writes_none (IsPart raw (view_at (seen c.args.library.now) c.args.cell.0).own) 1 (part_sets raw) c.args.out.now.items

pub part_strips-requires-clause-part : goal.part_strips-requires-clause-part
part_strips-requires-clause-part c =
    part_some c.args.library.now.tech c.lawful.ensures.well_formed c.loop-place.place _
    (part_at c.args.library.now.tech c.args.parts.now c.requires.parts c.loop-place.place (record { 0 = 0 }) c.loop-place-test.true)

pub loop-place-preserved : goal.loop-place-preserved
loop-place-preserved c =
    let raw = c.args.library.now.tech in
    let own = (view_at (seen c.args.library.now) c.args.cell.0).own in
    let place = c.loop-place.place in
    let part = get_or c.args.parts.now place (record { 0 = 0 }) in
    writes_more (IsPart raw own) 1 (part_sets raw) place (place + 1) part.0 c.args.out.now.items c.loop-place.out.items c.write_part.new.out.items
    (part_at raw c.args.parts.now c.requires.parts place (record { 0 = 0 }) c.loop-place-test.true) (omega arith) c.loop-place.invariant
    (part_written raw own (place + 1) part.0 c.in_ok-areas.areas.items c.as_slice-in-loop-place.result.now c.as_slice-in-loop-place.ensures.value
    c.in_ok-areas.ensures c.loop-place.out.items c.write_part.new.out.items c.in_ok-write_part.ensures.written)

pub returns-in_err-write_part-clause-refused : goal.returns-in_err-write_part-clause-refused
returns-in_err-write_part-clause-refused c =
    let raw = c.args.library.now.tech in
    let own = (view_at (seen c.args.library.now) c.args.cell.0).own in
    let place = c.loop-place.place in
    let part = get_or c.args.parts.now place (record { 0 = 0 }) in
    passed_on c.from_residual-in_err-write_part.result c.in_err-write_part.field-0.0 _
    (err_from_is_err_and c.from_residual-in_err-write_part.result c.from_residual-in_err-write_part.ensures.1)
    (λ other. too_long_at (IsPart raw own) 1 (part_sets raw) place (place + 1) part.0 c.args.out.now.items c.loop-place.out.items (one_part raw own)
    (part_at raw c.args.parts.now c.requires.parts place (record { 0 = 0 }) c.loop-place-test.true) (omega arith) c.loop-place.invariant
    (part_too_long raw own (place + 1) part.0 c.in_ok-areas.areas.items c.as_slice-in-loop-place.result.now c.as_slice-in-loop-place.ensures.value
    c.in_ok-areas.ensures c.loop-place.out.items (c.in_err-write_part.ensures.refused other)))

pub returns-clause-written : goal.returns-clause-written
returns-clause-written c =
    let raw = c.args.library.now.tech in
    let many = length-part_sets raw c.args.parts.now c.requires.parts in
    writes_all (IsPart raw (view_at (seen c.args.library.now) c.args.cell.0).own) 1 (part_sets raw) c.loop-place.place c.args.out.now.items
    c.loop-place.out.items (omega (arith, many, c.loop-place-test.false)) c.loop-place.invariant
