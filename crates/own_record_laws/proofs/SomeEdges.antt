-- Where edges are counted there is one.
use Rattle.own_record_laws.proofs.Common.{ℤ, pos, [], ◌∷◌, inl, refl, arith, ints, LeadsAcross, IsEdgeCount, Place}
use Rattle.std.proofs.Common.{◌<ℤ◌}

-- An edge that a count of some edges has.
pub record IsCounted (From To : Place → Type 0) : Type 0 where
  pub edge : Place × Place
  pub leads : LeadsAcross From To edge

-- where edges are counted there is one
pub some_edge : (From To : Place → Type 0) (count : ℤ) → pos 0 <ℤ count → IsEdgeCount From To count → IsCounted From To
some_edge From To count some ([], (lists, sum)) = absurd (omega (arith, ints, some, sum))
some_edge From To count some (edge ∷ edges, (lists, sum)) = record { edge = edge; leads = lists.2 edge (inl refl) }
