use Rattle.ext_loading.proofs.Common.{◌≡◌, ◌∙◌, [], ◌∷◌, sym, ap, subst, List, ℕ, arith, reverse, Option, None, Err, CallPlan, after_fetches, All}
use Rattle.ext_loading.proofs.Common.{GoesOn, Reads, StopsAsking, files_of, circuit_files}
use Rattle.std.proofs.lemmas.List.{nil_from_length}
use Rattle.std.proofs.lemmas.Result.{err_from_is_err_and}
use Rattle.session_model.specs.FileTrees.{end}
use Rattle.session_model.specs.steps.Stops.{kinds_of_told}
use Rattle.session_model.proofs.FetchLaws.{calm_from, calm_then}
use Rattle.session_model.proofs.FileTreeLaws.{stops_asking_later}
use Rattle.session_model.proofs.StopLaws.{refused_by}
use Rattle.ext_loading.specs.Loads.{cause_of_load}
use Rattle.ext_loading.specs.steps.Trees.{AreSoFar}
use Rattle.ext_loading.proofs.ReadingLaws.{next_name, so_far_end}
use Rattle.ext_loading.proofs.loading.read_below.Goals as goal

pub names-preserved : goal.names-preserved
names-preserved g c =
    let next : reverse c.names.walk.left.items ≡ c.in-Some.name ∷ reverse c.pop.new.self.items =
    ap reverse c.in-Some.ensures.items ∙ next_name c.pop.new.self.items c.in-Some.name in
    record {
      so_far = c.in_ok-visit.ensures.so_far c.args.root.now (subst (AreSoFar c.args.root.now c.names.walk.read) next c.names.invariant.so_far);
      calm = calm_then g.F.Shelf c.args.shelf.now c.names.shelf c.visit.new.shelf c.names.invariant.calm
          (calm_from g.F.Shelf c.names.shelf c.visit.new.shelf (kinds_of_told cause_of_load) None c.in_ok-visit.ensures.causes);
      files = c.visit.ensures.files ∙ c.names.invariant.files;
      asked = c.in_ok-visit.ensures.asked (g.F.Shelf.fetch_plan c.args.shelf.now) c.names.invariant.asked;
      goes_on = λ files told reading rest.
          subst (λ (left : List (List ℕ)). GoesOn circuit_files files [] (c.args.root.now ∷ []) c.names.walk.read left) next
          (c.names.invariant.goes_on files told) reading
          (c.in_ok-visit.ensures.goes_on files (c.names.invariant.files ∙ told) reading rest);
    }

pub returns-in_err-visit-clause-refused : goal.returns-in_err-visit-clause-refused
returns-in_err-visit-clause-refused g c files told =
    let left = reverse c.pop.new.self.items in
    let next : reverse c.names.walk.left.items ≡ c.in-Some.name ∷ left =
    ap reverse c.in-Some.ensures.items ∙ next_name c.pop.new.self.items c.in-Some.name in
    let here = subst (λ (left : List (List ℕ)). GoesOn circuit_files files [] (c.args.root.now ∷ []) c.names.walk.read left) next
    (c.names.invariant.goes_on files told) in
    let told_on = err_from_is_err_and c.from_residual-in_err-visit.result c.from_residual-in_err-visit.ensures.1 in
    let old = g.F.Shelf.fetch_plan c.args.shelf.now in
    let middle = g.F.Shelf.fetch_plan c.names.shelf in
    let new = g.F.Shelf.fetch_plan c.visit.new.shelf in
    refused_by c.from_residual-in_err-visit.result c.in_err-visit.field-0.0
    (StopsAsking circuit_files files c.names.walk.read (c.in-Some.name ∷ left) middle new)
    (StopsAsking circuit_files files [] (c.args.root.now ∷ []) old new) (told_on.1 ∙ ap Err told_on.2)
    (λ fault stops. stops_asking_later circuit_files files [] c.names.walk.read (c.args.root.now ∷ []) (c.in-Some.name ∷ left) old middle new fault here
    (λ first asked. c.names.invariant.asked ∙ ap (λ (plan : Option CallPlan). after_fetches plan (files_of circuit_files c.names.walk.read)) asked) stops)
    (c.in_err-visit.ensures.stops files (c.names.invariant.files ∙ told))

pub returns-clause-read : goal.returns-clause-read
returns-clause-read g c files told =
    let read = c.names.walk.read in
    let none : c.names.walk.left.items ≡ [] =
    nil_from_length c.names.walk.left.items (omega (arith, c.in_default.ensures.cases.0, c.names.walk.left.ok.0)) in
    c.names.invariant.goes_on files told (All read) (subst (λ (left : List (List ℕ)). Reads circuit_files files read (reverse left) (All read)) (sym none) end)

pub returns-clause-tree : goal.returns-clause-tree
returns-clause-tree g c =
    let none : c.names.walk.left.items ≡ [] =
    nil_from_length c.names.walk.left.items (omega (arith, c.in_default.ensures.cases.0, c.names.walk.left.ok.0)) in
    so_far_end c.args.root.now c.names.walk.read
    (subst (λ (left : List (List ℕ)). AreSoFar c.args.root.now c.names.walk.read (reverse left)) none c.names.invariant.so_far)
