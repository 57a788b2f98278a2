use Rattle.flatten.proofs.Common.{◌≡◌, ℕ, List, ◌∙◌, sym, subst, IfOk-weaker, HasText}
use Rattle.flatten.proofs.PlacedLaws.{has_text}
use Rattle.flatten.proofs.nodes.name_at.Goals as goal

pub returns : goal.returns
returns c =
    let names = c.args.names.now in
    let text = c.append.new.out.items in
    let has : HasText names c.args.number text = has_text names c.requires.names c.args.number c.requires.number c.clear.new.self.items text
    c.clear.ensures.items c.in_ok-append.ensures in
    let P : List ℕ → Type 0 = HasText names c.args.number in
    IfOk-weaker c.of.result (λ (name : List ℕ). name ≡ c.as_slice.result.now) P
    (λ name is. subst P (sym (is ∙ c.as_slice.ensures.value)) has) c.of.ensures
