use Rattle.circuit_commands.proofs.Common.{◌≡◌, ◌∙◌, ℕ, List, inl, refl, sym, ap, subst, IfOk-weaker, All, fetched_by, ArrayExt, circuit_files}
use Rattle.circuit_commands.proofs.Common.{answers_refusal, both_ok, Ext2simMeans}
use Rattle.session_model.specs.Effects.{AnswersFetching, GivesFetching}
use Rattle.ext_loading.specs.declared.loading.LoadedExts.{LoadedExts}
use Rattle.ext_loading.specs.Loads.{AreRead, LoadGives}
use Rattle.circuit_commands.specs.Refusals.{tree_refusal}
use Rattle.circuit_commands.proofs.command_ext2sim.ext2sim.Goals as goal

pub returns-in-Records-clause-effect : goal.returns-in-Records-clause-effect
returns-in-Records-clause-effect g c files told =
    let old = g.F.Shelf.fetch_plan c.args.shelf.now in
    let new = g.F.Shelf.fetch_plan c.load_exts.new.shelf in
    let (fetched, (read, fetched_are), asked) = subst (λ (loaded : LoadedExts). GivesFetching (LoadGives files c.args.cell.now loaded) old new) c.in-Records.is
    (c.in_ok-exts.ensures.effect files told) in
    let sliced : c.as_slice.result.now ≡ c.in-Records.exts.items = c.as_slice.ensures.value in
    let are_read = subst (λ (exts : List ArrayExt). AreRead files c.args.cell.now exts) (sym sliced) read in
    IfOk-weaker c.sim_of_records.result _ _
    (λ answer means. (
      fetched,
      subst (λ (names : List (List ℕ)). AnswersFetching names (Ext2simMeans c.args.number files c.args.cell.now) tt answer)
          (ap (λ (exts : List ArrayExt). fetched_by circuit_files (All exts)) sliced ∙ sym fetched_are) means,
      asked,
    ))
    (c.sim_of_records.ensures.effect files are_read)

pub returns-in-Refused-clause-effect : goal.returns-in-Refused-clause-effect
returns-in-Refused-clause-effect g c files told =
    let old = g.F.Shelf.fetch_plan c.args.shelf.now in
    let new = g.F.Shelf.fetch_plan c.load_exts.new.shelf in
    let (fetched, is_refused, asked) = subst (λ (loaded : LoadedExts). GivesFetching (LoadGives files c.args.cell.now loaded) old new) c.in-Refused.is
    (c.in_ok-exts.ensures.effect files told) in
    both_ok c.refuse_tree.result _ _ _
    (λ answer lines stores. (
      fetched,
      answers_refusal (Ext2simMeans c.args.number files c.args.cell.now) c.args.number tt (tree_refusal c.in-Refused.fault) fetched answer lines stores
          (inl (record { fault = c.in-Refused.fault; fetched = fetched; is_refused = is_refused; is = refl })),
      asked,
    ))
    c.refuse_tree.ensures.lines c.refuse_tree.ensures.stores
