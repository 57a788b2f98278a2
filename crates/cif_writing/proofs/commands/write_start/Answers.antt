use Rattle.cif_writing.proofs.CommandLaws.{start_appended}
use Rattle.cif_writing.proofs.commands.write_start.Goals as goal

pub returns : goal.returns
returns c =
    start_appended c.args.number _ _ _ _ c.in_ok-extend_from_slice.ensures.items c.in_ok-append_count.ensures
    c.in_ok-extend_from_slice-2.ensures.items
