use Rattle.full_names.proofs.Common.{List, get_or, refl, subst, get_or_default, take_all, OwnName}
use Rattle.full_names.proofs.GlobalLaws.{AreGlobalsAdded, globals_none, globals_more}
use Rattle.full_names.proofs.Lookups.{no_own}
use Rattle.full_names.proofs.globals.add_globals.Goals as goal

pub loop-name-init : goal.loop-name-init
loop-name-init c = globals_none c.args.element c.args.found.now.items

pub loop-name-preserved : goal.loop-name-preserved
loop-name-preserved c =
    let names = c.args.names.now in
    let k = c.loop-name.name-index in
    let own : OwnName = get_or names k no_own in
    globals_more names k own c.args.element c.args.found.now.items c.loop-name.found.items c.push.new.self.items _ c.loop-name-test.true
    (get_or_default names k no_own own c.loop-name-test.true) c.in_ok-push.ensures.items refl refl refl refl c.loop-name.invariant

pub returns : goal.returns
returns c =
    let added = subst (λ (list : List OwnName). AreGlobalsAdded list c.args.element c.args.found.now.items c.loop-name.found.items)
    (take_all c.loop-name.name-index c.args.names.now c.loop-name-test.false) c.loop-name.invariant in
    record { old = added.old; from = added.from; all = added.all }
