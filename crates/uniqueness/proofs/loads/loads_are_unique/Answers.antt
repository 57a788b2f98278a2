use Rattle.uniqueness.proofs.OneLoad.{not_both, same_load, same_refusal}
use Rattle.uniqueness.proofs.loads.loads_are_unique.Goals as goal

pub returns : goal.returns
returns c = record {
  libraries = λ files view after other edits root. same_load files view edits root after other;
  faults = same_refusal;
  either = λ files view after edits root. not_both files view edits root after;
}
