use Rattle.names.proofs.Common.{sym}
use Rattle.std.proofs.Common.{nat_eq}
use Rattle.std.specs.Cmp.Lexicographic.{pointwise, same_text}
use Rattle.std.proofs.lemmas.Cmp.{nat_list_eq_equiv}
use Rattle.std.proofs.lemmas.List.Filters.{dedup_is}
use Rattle.names.proofs.NamingLaws.{names_kept}
use Rattle.names.proofs.naming.label_names.Goals as goal

pub returns : goal.returns
returns c = names_kept c.args.labels.now c.args.indices.now c.in_ok-texts_at.field-0.items c.in_name_order-names.result.items c.dedup.new.self.items
    (pointwise nat_eq) nat_list_eq_equiv (λ x y told. same_text x y (sym told)) c.in_ok-texts_at.ensures c.in_name_order-names.ensures.moved
    c.in_name_order-names.ensures.sorted (dedup_is _ _ _ c.dedup.ensures.filtered)
