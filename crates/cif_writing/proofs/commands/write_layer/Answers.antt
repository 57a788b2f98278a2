use Rattle.cif_writing.proofs.Common.{arith}
use Rattle.std.proofs.Common.{to_z}
use Rattle.std.specs.Int.{w128}
use Rattle.std.proofs.lemmas.Int.{ints}
use Rattle.cif_writing.proofs.CommandLaws.{layer_appended}
use Rattle.cif_writing.proofs.commands.write_layer.Goals as goal

pub returns : goal.returns
returns c =
    layer_appended c.args.part (to_z w128 c.args.part) _ _ _ _ (omega (arith, ints)) c.in_ok-extend_from_slice.ensures.items
    c.in_ok-append_decimal.ensures.ok c.in_ok-end_command.ensures
