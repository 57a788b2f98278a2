use Rattle.full_names.proofs.OwnNameLaws.{name_pushed}
use Rattle.full_names.proofs.own_names.add_name.Goals as goal

pub returns-in_ok-push-clause-nodes : goal.returns-in_ok-push-clause-nodes
returns-in_ok-push-clause-nodes c = name_pushed c.args.names.now.items c.push.new.self.items _ c.in_ok-push.ensures.items
