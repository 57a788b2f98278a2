use Rattle.full_names.proofs.Common.{rules, name_cmp, name_cmp_total, GlobalName, global_texts}
use Rattle.ext_model.proofs.NameOrders.{name_cmp_exact}
use Rattle.std.proofs.lemmas.Fn.{always_returns_same}
use Rattle.full_names.proofs.SearchLaws.{text_found, text_missing}
use Rattle.full_names.proofs.ListOrders.{sorted_names}
use Rattle.full_names.proofs.globals.global_place.Goals as goal

pub returns-clause-some : goal.returns-clause-some
returns-clause-some c =
    let by = c.binary_search_by.ensures.position (λ (name : GlobalName). name_cmp name.text.now c.args.text.now)
    (always_returns_same _ _ _ (λ a r g called. search rules)) in
    text_found (λ (name : GlobalName). name.text.now) name_cmp name_cmp_total name_cmp_exact
    c.args.names.now c.args.text.now c.binary_search_by.result c.ok.result c.ok.ensures.value (c.binary_search_by.ensures.bound, by)

pub returns-clause-none : goal.returns-clause-none
returns-clause-none c =
    let by = c.binary_search_by.ensures.position (λ (name : GlobalName). name_cmp name.text.now c.args.text.now)
    (always_returns_same _ _ _ (λ a r g called. search rules)) in
    text_missing (λ (name : GlobalName). name.text.now) name_cmp name_cmp_total name_cmp_exact
    c.args.names.now c.args.text.now c.binary_search_by.result c.ok.result c.ok.ensures.value
    (sorted_names (global_texts c.args.names.now) c.requires) (c.binary_search_by.ensures.bound, by)
