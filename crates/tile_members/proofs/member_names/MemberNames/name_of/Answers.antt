use Rattle.tile_members.proofs.Common.{List, sym, subst, All, IsSome, ext_of, LibraryParts, seen, Step, AreStepsTo}
use Rattle.tile_members.proofs.Climbs.{all_kept}
use Rattle.tile_members.proofs.member_names.MemberNames.name_of.Goals as goal

pub climb-requires-clause-kept : goal.climb-requires-clause-kept
climb-requires-clause-kept c =
    let library = c.args.library.now in
    let table = c.args.self.now.records.now in
    let steps = c.in_ok-steps.steps.items in
    let are : AreStepsTo (seen library) c.args.cell.0 c.args.element steps =
    subst (λ (l : LibraryParts). AreStepsTo (seen l) c.args.cell.0 c.args.element steps) c.requires.paths c.in_ok-steps.ensures.steps in
    subst (λ (ss : List Step). All (λ (s : Step). IsSome (ext_of table s.child)) ss) (sym c.as_slice.ensures.value)
    (all_kept library c.lawful.ensures table c.args.cell.0 c.args.element steps c.requires.members are)
