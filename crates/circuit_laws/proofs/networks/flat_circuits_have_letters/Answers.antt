use Rattle.circuit_laws.proofs.FlatLetters.{flat_circuits_have_letters}
use Rattle.circuit_laws.proofs.networks.flat_circuits_have_letters.Goals as goal

pub returns : goal.returns
returns c = flat_circuits_have_letters c.args.tech.now c.raw.ensures.rules
