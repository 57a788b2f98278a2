use Rattle.full_names.proofs.PathLaws.{written_below}
use Rattle.full_names.proofs.paths.+append_path.Goals as goal

pub returns-in_ok-push-in-Some : goal.returns-in_ok-push-in-Some
returns-in_ok-push-in-Some t c =
    let used = c.in-Some.field-0 in
    written_below c.args.exts.now c.args.tree.now used.parent used.id.now c.args.number c.args.out.now.items c.append_path.new.out.items
    c.extend_from_slice.new.self.items c.push.new.self.items c.in-Some.ensures.some c.in_ok-append_path-in-Some.ensures
    c.in_ok-extend_from_slice-in-Some.ensures.items c.in_ok-push-in-Some.ensures.items
