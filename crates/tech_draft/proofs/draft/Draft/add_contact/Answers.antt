-- The layers of the residues are in range.
use Rattle.tech_draft.proofs.Common.{◌≡◌, ◌<◌, ◌++◌, ◌∙◌, List, ap, sym, subst, rules, All, words_of, LayerId, TypeId, MOST_TYPES, residues_of_layer}
use Rattle.tech_draft.proofs.IndexLaws.{noted-kept}
use Rattle.tech_draft.proofs.draft.Draft.add_contact.Goals as goal

pub invariant_of-self-2 : goal.invariant_of-self-2
invariant_of-self-2 c =
    let raw = c.args.self.now.raw in
    let layer = c.layer_of_word-layer.result.0 in
    let words = words_of c.args.residues.now in
    let old = c.self.inside.residues.items in
    let noted : c.deref.result.now ≡ residues_of_layer raw layer words =
    first_of (cc (c.deref.ensures.value, c.in_ok-pairs.ensures), search (rules, c.deref.ensures.value, c.in_ok-pairs.ensures)) in
    let are : c.extend_from_slice.new.self.items ≡ old ++ residues_of_layer raw layer words =
    c.in_ok-extend_from_slice.ensures.items ∙ ap (λ (more : List (LayerId × TypeId)). old ++ more) noted in
    record {
      indexed = c.self.invariant.indexed;
      room = c.self.invariant.room;
      marked = subst (All (λ (pair : LayerId × TypeId). pair.0.0 < MOST_TYPES)) (sym are)
          (noted-kept raw old layer words c.layer_of_word-layer.ensures.in_range c.self.invariant.marked);
    }
