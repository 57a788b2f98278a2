-- The name order is a total order, and tells names apart.
use Rattle.ext_model.proofs.Common.{◌≡◌, false, inl, inr, refl, ap, tied_itself, Ordering, Less, Equal, Greater, name_cmp}
use Rattle.std.proofs.Common.{◌⊎◌}
use Rattle.std.proofs.lemmas.Cmp.{on_total, nat_list_cmp_total, upto}
use Rattle.std.specs.Cmp.{IsTotalOrder}
use Rattle.std.specs.FinMap.{nat_cmp-IsAntisymmetric, slice_cmp-IsAntisymmetric}
use Rattle.std.specs.Ordering.{is_gt, ordering_reverse}
use Rattle.geo_core.specs.FiniteSets.Laws.{IsReflexive, IsTransitive}
use Rattle.ext_model.specs.NameOrder.{name_rank, StandsNoLater}
use Rattle.ext_model.specs.NameLaws.{NameOrderIsTotal, NameOrderIsAntisymmetric, NameOrderIsExact, RanksTellNamesApart}

-- the laws of a comparison, as sorting asks for them
pub name_cmp_total : IsTotalOrder name_cmp
name_cmp_total = on_total name_rank nat_list_cmp_total

pub ranks_tell_names_apart : RanksTellNamesApart
ranks_tell_names_apart a b same = cc

pub name_cmp_exact : NameOrderIsExact
name_cmp_exact a b tied = ranks_tell_names_apart a b (slice_cmp-IsAntisymmetric nat_cmp-IsAntisymmetric (name_rank a) (name_rank b) tied)

pub no_later_reflexive : IsReflexive StandsNoLater
no_later_reflexive a = ap is_gt (tied_itself name_cmp_total a)

pub no_later_transitive : IsTransitive StandsNoLater
no_later_transitive a b c = upto name_cmp_total a b c

-- of two answers that are each other's reverse one is not Greater
one_is_not_greater : (there back : Ordering) → there ≡ ordering_reverse back → (is_gt there ≡ false) ⊎ (is_gt back ≡ false)
one_is_not_greater there Less e = inr refl
one_is_not_greater there Equal e = inr refl
one_is_not_greater there Greater e = inl (ap is_gt e)

pub no_later_total : NameOrderIsTotal
no_later_total a b = one_is_not_greater (name_cmp a b) (name_cmp b a) (name_cmp_total.antisymm a b)

-- where neither of two answers that are each other's reverse is Greater, both are Equal
both_are_equal : (there back : Ordering) → there ≡ ordering_reverse back → is_gt there ≡ false → is_gt back ≡ false → there ≡ Equal
both_are_equal there Less e p q = cc
both_are_equal there Equal e p q = e
both_are_equal there Greater e p q = cc

pub no_later_antisymmetric : NameOrderIsAntisymmetric
no_later_antisymmetric a b p q = name_cmp_exact a b (both_are_equal (name_cmp a b) (name_cmp b a) (name_cmp_total.antisymm a b) p q)
