use Rattle.tech_model.proofs.WellFormedLaws.{layers_limit, pairs_have_rows}
use Rattle.tech_model.proofs.indexed.Indexed.new.Goals as goal

pub index_words-requires : goal.index_words-requires
index_words-requires c = rw c.items.ensures (layers_limit c.args.raw c.requires)

pub of-requires : goal.of-requires
of-requires c = rw c.items-2.ensures (pairs_have_rows c.args.raw c.requires)
