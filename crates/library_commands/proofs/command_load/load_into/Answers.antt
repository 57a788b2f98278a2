use Rattle.library_commands.proofs.Common.{◌≡◌, [], ◌∷◌, refl, subst, rules, Answer, IsSame, seen, agrees_same, loaded_text, reply, both_ok}
use Rattle.library_commands.proofs.Common.{same_current, log_forgotten, log_same}
use Rattle.session_model.specs.Effects.{GivesFetching}
use Rattle.uniqueness.specs.CellLoading.declared.loading.Loaded.{Loaded}
use Rattle.uniqueness.specs.CellLoading.Arrivals.{ArriveWithStamps}
use Rattle.uniqueness.specs.CellLoading.Loads.{HasMoreIfLoaded, KeepsIfRefused, LoadGives}
use Rattle.workspace.proofs.ArrivalLaws.{agrees_all, dirty_cells}
use Rattle.library_commands.proofs.LoadLaws.{load_done, load_refused}
use Rattle.library_commands.proofs.command_load.load_into.Goals as goal

pub returns-in_err-count-clause-kept : goal.returns-in_err-count-clause-kept
returns-in_err-count-clause-kept g c =
    let old = c.args.edited.now.library in
    let new = c.load_cells.new.library in
    let same = c.in_err-count.ensures.halted in
    record {
      current = same_current old new c.args.edited.now.current same c.requires.edited.current;
      agrees = agrees_same old new c.args.edited.now.cache same c.requires.edited.agrees;
      log = log_same old new c.args.edited.now.log c.args.edited.now.log same refl c.requires.edited.log;
    }

pub returns-in_err-lines-in-Cells-clause-kept : goal.returns-in_err-lines-in-Cells-clause-kept
returns-in_err-lines-in-Cells-clause-kept g c =
    let old = c.args.edited.now.library in
    let new = c.load_cells.new.library in
    let came = subst (λ (given : Loaded). ArriveWithStamps old new given) c.in-Cells.is c.in_ok-count.ensures.stamped in
    let more = subst (λ (given : Loaded). HasMoreIfLoaded old new given) c.in-Cells.is c.in_ok-count.ensures.more in
    record {
      current = rw c.cell_count-first.ensures more;
      agrees = agrees_all old new c.args.edited.now.cache came.0 c.lawful.ensures came.1 c.requires.edited.agrees came.2;
      log = log_forgotten (seen new) c.forget.new.self c.forget.ensures;
    }

pub returns-in_ok-lines-in-Cells-clause-effect : goal.returns-in_ok-lines-in-Cells-clause-effect
returns-in_ok-lines-in-Cells-clause-effect g c files told =
    let old = c.args.edited.now.library in
    let new = c.load_cells.new.library in
    let plan = g.F.Shelf.fetch_plan c.args.shelf.now in
    let now = g.F.Shelf.fetch_plan c.load_cells.new.shelf in
    let (fetched, (next, is_loaded), asked) = subst (λ (given : Loaded). GivesFetching (LoadGives files old new c.args.cell.now given) plan now) c.in-Cells.is
    (c.in_ok-count.ensures.effect files told) in
    let came = subst (λ (given : Loaded). ArriveWithStamps old new given) c.in-Cells.is c.in_ok-count.ensures.stamped in
    let answer : Answer = c.told.result in
    let lines : answer.lines.items ≡ reply (loaded_text c.args.cell.now c.in-Cells.count) ∷ [] = search rules in (
      fetched,
      load_done c.args.number old new c.args.edited.now.current c.args.edited.now.cache c.args.edited.now.log c.forget.new.self c.cell_count-first.result
          files c.args.cell.now c.in-Cells.count fetched answer c.forget.ensures
          (dirty_cells old new c.args.edited.now.cache came.0 c.lawful.ensures came.1 c.requires.edited.agrees)
          is_loaded next c.cell_count-first.ensures lines c.told.ensures.stores,
      asked,
    )

pub returns-in_ok-lines-in-Cells-clause-kept : goal.returns-in_ok-lines-in-Cells-clause-kept
returns-in_ok-lines-in-Cells-clause-kept g c =
    let old = c.args.edited.now.library in
    let new = c.load_cells.new.library in
    let came = subst (λ (given : Loaded). ArriveWithStamps old new given) c.in-Cells.is c.in_ok-count.ensures.stamped in
    let more = subst (λ (given : Loaded). HasMoreIfLoaded old new given) c.in-Cells.is c.in_ok-count.ensures.more in
    record {
      current = rw c.cell_count-first.ensures more;
      agrees = agrees_all old new c.args.edited.now.cache came.0 c.lawful.ensures came.1 c.requires.edited.agrees came.2;
      log = log_forgotten (seen new) c.forget.new.self c.forget.ensures;
    }

pub returns-in-Refused-clause-effect : goal.returns-in-Refused-clause-effect
returns-in-Refused-clause-effect g c files told =
    let old = c.args.edited.now.library in
    let new = c.load_cells.new.library in
    let plan = g.F.Shelf.fetch_plan c.args.shelf.now in
    let now = g.F.Shelf.fetch_plan c.load_cells.new.shelf in
    let (fetched, is_refused, asked) = subst (λ (given : Loaded). GivesFetching (LoadGives files old new c.args.cell.now given) plan now) c.in-Refused.is
    (c.in_ok-count.ensures.effect files told) in
    let same : IsSame old new = subst (λ (given : Loaded). KeepsIfRefused old new given) c.in-Refused.is c.in_ok-count.ensures.kept in
    both_ok c.refuse_load.result _ _ _
    (λ answer lines stores. (
      fetched,
      load_refused c.args.number old new c.args.edited.now.current c.args.edited.now.cache c.args.edited.now.log files c.args.cell.now c.in-Refused.fault
          fetched answer same
          is_refused lines stores,
      asked,
    ))
    c.refuse_load.ensures.lines c.refuse_load.ensures.stores

pub returns-in-Refused-clause-kept : goal.returns-in-Refused-clause-kept
returns-in-Refused-clause-kept g c =
    let old = c.args.edited.now.library in
    let new = c.load_cells.new.library in
    let same : IsSame old new = subst (λ (given : Loaded). KeepsIfRefused old new given) c.in-Refused.is c.in_ok-count.ensures.kept in
    record {
      current = same_current old new c.args.edited.now.current same c.requires.edited.current;
      agrees = agrees_same old new c.args.edited.now.cache same c.requires.edited.agrees;
      log = log_same old new c.args.edited.now.log c.args.edited.now.log same refl c.requires.edited.log;
    }
