use Rattle.magex_top.proofs.Common.{refl, sym, subst, IfOk-weaker, Answers, Command, state_of, CommandMeans}
use Rattle.magex_top.proofs.session.answer.Goals as goal

pub returns-in-Tech-clause-effect : goal.returns-in-Tech-clause-effect
returns-in-Tech-clause-effect g c files told =
    IfOk-weaker c.tech.result _ _
    (λ answer means. subst (λ (command : Command). Answers (CommandMeans c.args.budget c.args.number (state_of c.args.session.now) files command)
    (state_of c.tech.new.session) answer (g.F.Shelf.fetch_plan c.args.shelf.now) (g.F.Shelf.fetch_plan c.tech.new.shelf)) (sym c.in-Tech.is) means)
    (c.tech.ensures.effect files told)

pub returns-in-Load-clause-effect : goal.returns-in-Load-clause-effect
returns-in-Load-clause-effect g c files told =
    IfOk-weaker c.load.result _ _
    (λ answer means. subst (λ (command : Command). Answers (CommandMeans c.args.budget c.args.number (state_of c.args.session.now) files command)
    (state_of c.load.new.session) answer (g.F.Shelf.fetch_plan c.args.shelf.now) (g.F.Shelf.fetch_plan c.load.new.shelf)) (sym c.in-Load.is) means)
    (c.load.ensures.effect files told)

pub returns-in-Drc-clause-effect : goal.returns-in-Drc-clause-effect
returns-in-Drc-clause-effect g c files told =
    IfOk-weaker c.check.result _ _
    (λ answer means. subst (λ (command : Command). Answers (CommandMeans c.args.budget c.args.number (state_of c.args.session.now) files command)
    (state_of c.args.session.now) answer (g.F.Shelf.fetch_plan c.args.shelf.now) (g.F.Shelf.fetch_plan c.check.new.shelf)) (sym c.in-Drc.is) means)
    (c.check.ensures.effect files told)

pub returns-in-Cifstat-clause-effect : goal.returns-in-Cifstat-clause-effect
returns-in-Cifstat-clause-effect g c files told =
    IfOk-weaker c.cifstat.result _ _
    (λ answer means. subst (λ (command : Command). Answers (CommandMeans c.args.budget c.args.number (state_of c.args.session.now) files command)
    (state_of c.args.session.now) answer (g.F.Shelf.fetch_plan c.args.shelf.now) (g.F.Shelf.fetch_plan c.cifstat.new.shelf)) (sym c.in-Cifstat.is)
    (means.0, (refl, means.1), means.2)) (c.cifstat.ensures.effect files told)

pub returns-in-Ext2sim-clause-effect : goal.returns-in-Ext2sim-clause-effect
returns-in-Ext2sim-clause-effect g c files told =
    IfOk-weaker c.ext2sim.result _ _
    (λ answer means. subst (λ (command : Command). Answers (CommandMeans c.args.budget c.args.number (state_of c.args.session.now) files command)
    (state_of c.args.session.now) answer (g.F.Shelf.fetch_plan c.args.shelf.now) (g.F.Shelf.fetch_plan c.ext2sim.new.shelf)) (sym c.in-Ext2sim.is)
    (means.0, (refl, means.1), means.2)) (c.ext2sim.ensures.effect files told)

pub returns-in-Vectors-clause-effect : goal.returns-in-Vectors-clause-effect
returns-in-Vectors-clause-effect g c files told =
    IfOk-weaker c.vectors.result _ _
    (λ answer means. subst (λ (command : Command). Answers (CommandMeans c.args.budget c.args.number (state_of c.args.session.now) files command)
    (state_of c.vectors.new.session) answer (g.F.Shelf.fetch_plan c.args.shelf.now) (g.F.Shelf.fetch_plan c.vectors.new.shelf)) (sym c.in-Vectors.is) means)
    (c.vectors.ensures.effect files told)

pub returns-in-Grade-clause-effect : goal.returns-in-Grade-clause-effect
returns-in-Grade-clause-effect g c files told =
    IfOk-weaker c.vectors-in-Grade.result _ _
    (λ answer means. subst (λ (command : Command). Answers (CommandMeans c.args.budget c.args.number (state_of c.args.session.now) files command)
    (state_of c.vectors-in-Grade.new.session) answer (g.F.Shelf.fetch_plan c.args.shelf.now) (g.F.Shelf.fetch_plan c.vectors-in-Grade.new.shelf))
    (sym c.in-Grade.is) means) (c.vectors-in-Grade.ensures.effect files told)

pub returns-in-Simrun-clause-effect : goal.returns-in-Simrun-clause-effect
returns-in-Simrun-clause-effect g c files told =
    IfOk-weaker c.simrun.result _ _
    (λ answer means. subst (λ (command : Command). Answers (CommandMeans c.args.budget c.args.number (state_of c.args.session.now) files command)
    (state_of c.args.session.now) answer (g.F.Shelf.fetch_plan c.args.shelf.now) (g.F.Shelf.fetch_plan c.simrun.new.shelf)) (sym c.in-Simrun.is)
    (means.0, (refl, means.1), means.2)) (c.simrun.ensures.effect files told)
