use Rattle.ext_loading.proofs.Common.{[], ◌∷◌, inr, subst, sym, List, ℕ, GivesFetching, StopsAsking, files_of, ExtLoadFault, IsFitTree, LoadGives}
use Rattle.ext_loading.proofs.Common.{LoadIsRefused, circuit_files, GivesTree}
use Rattle.std.proofs.lemmas.Result.{IfOk-weaker}
use Rattle.session_model.proofs.StopLaws.{refusal_told}
use Rattle.ext_loading.proofs.LoadLaws.{file_refuses, tree_fits, tree_given}
use Rattle.ext_loading.proofs.Positions.{children_are_cells}
use Rattle.ext_loading.proofs.loading.load_exts.Goals as goal

pub give_tree-requires : goal.give_tree-requires
give_tree-requires g c = children_are_cells c.in-Ok.read (λ ext name there used. c.in-Ok.ensures.tree.asked name (inr (ext, (there, used))))

pub returns-in-Ok-clause-effect : goal.returns-in-Ok-clause-effect
returns-in-Ok-clause-effect g c files told =
    let old = g.F.Shelf.fetch_plan c.args.shelf.now in
    let new = g.F.Shelf.fetch_plan c.read_below.new.shelf in
    IfOk-weaker c.give_tree.result (GivesTree c.in-Ok.read) (λ given. GivesFetching (LoadGives files c.args.root.now given) old new)
    (λ given gives. (
      files_of circuit_files c.in-Ok.read,
      tree_given files c.args.root.now c.in-Ok.read given (c.in-Ok.ensures.read files told) gives,
      c.in-Ok.ensures.asked,
    )) c.give_tree.ensures.given

pub returns-in-Ok-clause-fit : goal.returns-in-Ok-clause-fit
returns-in-Ok-clause-fit g c =
    IfOk-weaker c.give_tree.result (GivesTree c.in-Ok.read) (IsFitTree c.args.root.now)
    (λ given gives. tree_fits c.args.root.now c.in-Ok.read given c.in-Ok.ensures.tree gives) c.give_tree.ensures.given

pub returns-in-Err-Refused-clause-effect : goal.returns-in-Err-Refused-clause-effect
returns-in-Err-Refused-clause-effect g c files told =
    let old = g.F.Shelf.fetch_plan c.args.shelf.now in
    let new = g.F.Shelf.fetch_plan c.read_below.new.shelf in
    subst (λ (fault : ExtLoadFault). GivesFetching (λ fetched. LoadIsRefused files c.args.root.now fetched fault) old new) (sym c.in-Err-Refused.fault-is)
    (file_refuses files c.args.root.now old new c.in-Err-Refused.fault
    (refusal_told c.in-Err-Refused.field-0 c.in-Err-Refused.fault (StopsAsking circuit_files files [] (c.args.root.now ∷ []) old new)
    c.in-Err-Refused.field-0-is (c.in-Err-Refused.ensures.refused files told)))
