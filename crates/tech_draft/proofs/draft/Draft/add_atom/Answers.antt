-- The index has the new names, and the lists keep their limits.
use Rattle.tech_draft.proofs.Common.{◌≡◌, ◌<◌, ℕ, length, arith, refl, ap, ◌∙◌, Some, if◌then◌else◌, list_any, bytes_eq, layer_in, MOST_TYPES}
use Rattle.tech_draft.proofs.Common.{pieces_of}
use Rattle.tech_draft.specs.Kept.{draft_of}
use Rattle.tech_draft.proofs.IndexLaws.{atom-kept}
use Rattle.tech_draft.proofs.draft.Draft.add_atom.Goals as goal

pub invariant_of-self-in_default : goal.invariant_of-self-in_default
invariant_of-self-in_default c =
    let raw = (draft_of c.self.inside).raw in
    let types = c.in_default.ensures.types raw refl refl in
    let layers = c.in_default.ensures.layers raw refl refl in
    let names = c.in-Ok.ensures.names in
    let room : length c.self.inside.types.items < MOST_TYPES = omega (arith, c.len-2.ensures, c.self.inside.types.ok.0) in
    let count : c.len.result ≡ length c.self.inside.layers.items = omega (arith, c.len.ensures, c.self.inside.layers.ok.0) in
    atom-kept c.self.inside _ c.args.plane (pieces_of c.args.list.now) c.self.invariant room
    (c.in-Ok.ensures.passed raw c.self.invariant.indexed)
    (λ word. c.in-Ok.ensures.indexed word
    ∙ ap (λ (n : ℕ). if list_any (bytes_eq word) (pieces_of c.args.list.now) then Some n else layer_in c.self.inside.index word) count)
    refl (rw (types, layers, names) refl)
