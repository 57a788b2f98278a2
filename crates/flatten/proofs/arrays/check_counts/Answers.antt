use Rattle.flatten.proofs.Common.{err_from_is_err_and, IfErr-weaker}
use Rattle.flatten.proofs.ArrayLaws.{told_by, no_use_fault, node_is_fault, name_is_fault, merge_is_fault}
use Rattle.flatten.proofs.arrays.check_counts.Goals as goal

pub returns-in_err-tree : goal.returns-in_err-tree
returns-in_err-tree c =
    let given = err_from_is_err_and c.from_residual.result c.from_residual.ensures.1 in
    rw (given.1, given.2) (told_by (no_use_fault _ _ _ c.requires.bare c.requires.sound _) c.in_err-tree.ensures.fault)

pub returns-in_err-check_nodes : goal.returns-in_err-check_nodes
returns-in_err-check_nodes c =
    let given = err_from_is_err_and c.from_residual-in_err-check_nodes.result c.from_residual-in_err-check_nodes.ensures.1 in
    rw (given.1, given.2) (told_by (node_is_fault _ _ _ c.requires.bare c.requires.sound _) c.in_err-check_nodes.ensures.fault)

pub returns-in_err-full_names : goal.returns-in_err-full_names
returns-in_err-full_names c =
    let given = err_from_is_err_and c.from_residual-in_err-full_names.result c.from_residual-in_err-full_names.ensures.1 in
    rw (given.1, given.2)
    (told_by (name_is_fault _ _ _ c.requires.bare c.requires.sound c.in_ok-check_nodes.ensures.few _) c.in_err-full_names.ensures.fault)

pub returns : goal.returns
returns c =
    IfErr-weaker c.check_rows.result _ _
    (λ fault. told_by (merge_is_fault _ _ _ c.requires.bare c.requires.sound c.in_ok-check_nodes.ensures.few fault c.in_ok-full_names.ensures.few))
    c.check_rows.ensures.fault
