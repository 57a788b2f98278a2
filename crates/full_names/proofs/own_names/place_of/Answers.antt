use Rattle.full_names.proofs.Common.{rules, nat_cmp-IsAntisymmetric, slice_cmp-IsAntisymmetric, nat_cmp, slice_cmp, nat_list_cmp_total, OwnName}
use Rattle.std.proofs.lemmas.Fn.{always_returns_same}
use Rattle.full_names.proofs.SearchLaws.{text_found, text_missing}
use Rattle.full_names.proofs.own_names.place_of.Goals as goal

pub returns-clause-some : goal.returns-clause-some
returns-clause-some c =
    let by = c.binary_search_by.ensures.position (λ (name : OwnName). slice_cmp nat_cmp name.text.now c.args.text.now)
    (always_returns_same _ _ _ (λ a r g called. search rules)) in
    text_found (λ (name : OwnName). name.text.now) (slice_cmp nat_cmp) nat_list_cmp_total (slice_cmp-IsAntisymmetric nat_cmp-IsAntisymmetric)
    c.args.names.now c.args.text.now c.binary_search_by.result c.ok.result c.ok.ensures.value (c.binary_search_by.ensures.bound, by)

pub returns-clause-none : goal.returns-clause-none
returns-clause-none c =
    let by = c.binary_search_by.ensures.position (λ (name : OwnName). slice_cmp nat_cmp name.text.now c.args.text.now)
    (always_returns_same _ _ _ (λ a r g called. search rules)) in
    text_missing (λ (name : OwnName). name.text.now) (slice_cmp nat_cmp) nat_list_cmp_total (slice_cmp-IsAntisymmetric nat_cmp-IsAntisymmetric)
    c.args.names.now c.args.text.now c.binary_search_by.result c.ok.result c.ok.ensures.value c.requires (c.binary_search_by.ensures.bound, by)
