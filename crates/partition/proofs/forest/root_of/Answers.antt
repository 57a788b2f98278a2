use Rattle.std.proofs.Common.{◌<◌, length, get_or, refl, sym, ◌∙◌, arith, length-set}
use Rattle.partition.specs.Parents.{leaders_of}
use Rattle.partition.proofs.Ancestors.{Leads-leaders_of, Leads-halve, PointDown-halve, leaders_from_Leads}
use Rattle.partition.proofs.forest.root_of.Goals as goal

pub loop-parents-init : goal.loop-parents-init
loop-parents-init c =
    record {
      within = c.requires.within;
      down = c.requires.down;
      leads = Leads-leaders_of c.args.parents.now c.requires.down;
      same_class = refl;
    }

pub loop-parents-preserved : goal.loop-parents-preserved
loop-parents-preserved c =
    let p = c.loop-parents.parents in
    let at = c.loop-parents.at in
    let keeps = c.loop-parents.invariant in
    let down = keeps.down at keeps.within in
    let in_range : get_or p at 0 < length p = omega (arith, keeps.within) in
    let down_again = keeps.down (get_or p at 0) in_range in
    record {
      within = omega (arith, keeps.within, length-set p at (get_or p (get_or p at 0) 0));
      down = PointDown-halve p keeps.down at keeps.within;
      leads = Leads-halve p (leaders_of c.args.parents.now) keeps.down keeps.leads at keeps.within;
      same_class = sym (keeps.leads.follows (get_or p at 0) in_range) ∙ sym (keeps.leads.follows at keeps.within) ∙ keeps.same_class;
    }

pub returns-clause-leaders : goal.returns-clause-leaders
returns-clause-leaders c =
    let keeps = c.loop-parents.invariant in
    leaders_from_Leads c.loop-parents.parents (leaders_of c.args.parents.now) keeps.down keeps.leads
