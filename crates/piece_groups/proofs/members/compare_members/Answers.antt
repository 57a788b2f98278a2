use Rattle.piece_groups.proofs.Common.{◌≡◌, ◌∙◌, length, rules, slice_cmp, ordering_then}
use Rattle.std.proofs.Common.{nat_cmp}
use Rattle.ext_model.specs.NameOrder.{kind_rank}
use Rattle.piece_groups.specs.steps.Members.{member_cmp}
use Rattle.ext_model.proofs.PartOrders.{ordering_then-assoc}
use Rattle.piece_groups.proofs.members.compare_members.Goals as goal

pub returns : goal.returns
unfolding member_cmp
returns c =
    let a = c.args.one.now in
    let b = c.args.other.now in
    let kinds = nat_cmp (kind_rank a.kind) (kind_rank b.kind) in
    let slashes = nat_cmp a.slashes b.slashes in
    let lengths = nat_cmp (length a.name.now) (length b.name.now) in
    let bytes = slice_cmp nat_cmp a.name.now b.name.now in
    let by_kind : c.cmp.result ≡ kinds = search rules in
    let by_slashes : c.cmp-2.result ≡ slashes = search rules in
    let by_lengths : c.cmp-3.result ≡ lengths = search rules in
    let first : c.then.result ≡ ordering_then c.cmp.result c.cmp-2.result = search rules in
    let second : c.then-2.result ≡ ordering_then c.then.result c.cmp-3.result = search rules in
    let last : c.then_with.result ≡ ordering_then c.then-2.result bytes = search rules in
    let told : c.then_with.result ≡ ordering_then (ordering_then (ordering_then kinds slashes) lengths) bytes =
    last ∙ (λ i. ordering_then ((second ∙ (λ j. ordering_then ((first ∙ (λ k. ordering_then (by_kind k) (by_slashes k))) j) (by_lengths j))) i) bytes) in
    told ∙ ordering_then-assoc (ordering_then kinds slashes) lengths bytes ∙ ordering_then-assoc kinds slashes (ordering_then lengths bytes)
