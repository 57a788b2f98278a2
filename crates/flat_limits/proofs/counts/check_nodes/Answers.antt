use Rattle.std.proofs.Common.{ℕ, length, ◌∙◌, ap, inr, Bool, cond}
use Rattle.std.specs.Prelude.{Some, None}
use Rattle.ext_model.specs.declared.records.CellExt.{CellExt}
use Rattle.circuit_model.specs.declared.faults.FlatFault.TheVariants.{TooMany}
use Rattle.circuit_model.specs.declared.limits.CircuitLimit.TheVariants.{Nodes}
use Rattle.circuit_model.specs.declared.limits.TheConstants.{MOST_NODES}
use Rattle.flat_limits.proofs.TreeLaws.{size_within, past_is}
use Rattle.flat_limits.proofs.counts.check_nodes.Goals as goal

abbrev size_of : CellExt → ℕ
size_of ext = length ext.nodes

pub is_past-requires : goal.is_past-requires
is_past-requires c =
    size_within size_of _ _ _ c.requires.root c.requires.tree _ (c.as_slice.ensures.value ∙ c.in_ok-sizes.ensures) _ c.items.ensures

pub returns-then-is_past-clause-fault : goal.returns-then-is_past-clause-fault
returns-then-is_past-clause-fault c = inr (λ top is.
    past_is size_of _ _ _ c.requires.tree _ (c.as_slice.ensures.value ∙ c.in_ok-sizes.ensures) _ c.items.ensures MOST_NODES Nodes _ c.is_past.ensures top is
    ∙ ap (λ (t : Bool). cond t (Some (TooMany Nodes)) None) c.if-is_past.true)

pub returns-clause-few : goal.returns-clause-few
returns-clause-few c top is =
    past_is size_of _ _ _ c.requires.tree _ (c.as_slice.ensures.value ∙ c.in_ok-sizes.ensures) _ c.items.ensures MOST_NODES Nodes _ c.is_past.ensures top is
    ∙ ap (λ (t : Bool). cond t (Some (TooMany Nodes)) None) c.if-is_past.false
