use Rattle.uniqueness.proofs.SameTexts.{unattached_texts_are_one}
use Rattle.uniqueness.proofs.own_records.unattached_texts_are_unique.Goals as goal

pub returns : goal.returns
returns c = unattached_texts_are_one
