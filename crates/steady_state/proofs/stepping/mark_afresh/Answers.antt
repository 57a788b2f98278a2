use Rattle.steady_state.proofs.Common.{◌∙◌, network_in}
use Rattle.steady_state.proofs.Collecting.{none_marked}
use Rattle.steady_state.proofs.Moving.{all_quiet}
use Rattle.steady_state.proofs.stepping.mark_afresh.Goals as goal

pub mark_all-requires : goal.mark_all-requires
mark_all-requires c = none_marked (network_in c.args.net.now) c.clear.new.self (c.clear.ensures.fits ∙ c.requires) c.clear.ensures.empty

pub returns-clause-quiet : goal.returns-clause-quiet
returns-clause-quiet c = λ s. all_quiet (network_in c.args.net.now) s c.mark_all.new.marks.inside c.mark_all.ensures.every
