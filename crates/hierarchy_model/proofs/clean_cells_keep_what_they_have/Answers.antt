use Rattle.hierarchy_model.proofs.CleanLaws.{has_flat_type, own_within, one_owner}
use Rattle.hierarchy_model.proofs.RoleLaws.{roles_kept}
use Rattle.hierarchy_model.proofs.clean_cells_keep_what_they_have.Goals as goal

-- src/lib.rt:10:1
pub returns : goal.returns
returns c =
    let raw = c.args.tech.now in
    λ formed rules tree typed clean. record {
      flat = has_flat_type raw tree clean;
      own_types = own_within raw formed rules tree typed clean;
      channels = one_owner raw formed rules tree typed clean;
      roles = roles_kept raw formed rules tree typed clean;
    }
