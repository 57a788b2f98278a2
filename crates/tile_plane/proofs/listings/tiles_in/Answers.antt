use Rattle.tile_plane.proofs.Common.{◌≡◌, ◌≢◌, Bool, true, List, ◌++◌, map, filter, sym, ◌∙◌, ap, subst, arith, rules, All, IsPermutation}
use Rattle.tile_plane.proofs.Common.{answers_always, Piece, Covers, plane_range, corner_key, part_in, IsTaken}
use Rattle.std.proofs.Common.{not, ◌==◌}
use Rattle.std.proofs.lemmas.List.Elements.{filter_from_retain}
use Rattle.tile_plane.proofs.PartLaws.{corner_in_plane, tiles_listed}
use Rattle.tile_plane.proofs.listings.tiles_in.Goals as goal

-- the test of a value other than 0
abbrev has_value : Piece → Bool
has_value piece = not (piece.value == 0)

passes : (piece : Piece) → has_value piece ≡ true → piece.value ≢ 0
passes piece test zero = grind arith

pass : (piece : Piece) → piece.value ≢ 0 → has_value piece ≡ true
pass piece material = grind arith

pub find-first-requires-clause-inside : goal.find-first-requires-clause-inside
find-first-requires-clause-inside c = subst (Covers plane_range) (sym c.corner.ensures) (corner_in_plane c.args.area.now c.requires.near c.requires.proper)

pub push_parts-requires-clause-hints : goal.push_parts-requires-clause-hints
push_parts-requires-clause-hints c = subst (All (IsTaken c.args.store.now)) (sym c.new-hints.ensures.items) (λ k d below. absurd (omega arith))

pub returns : goal.returns
returns c =
    let tiles = c.args.store.now in
    let area = c.args.area.now in
    let adds = c.in_ok-push_parts.ensures.parts in
    let parts = map (part_in tiles area) adds.ids in
    let all : c.push_parts.new.parts.items ≡ parts = adds.joined ∙ ap (λ (v : List Piece). v ++ parts) c.new-parts.ensures.items in
    let kept : c.retain.new.self.items ≡ filter has_value c.push_parts.new.parts.items = filter_from_retain _ has_value
    (λ p x b q h. search rules) _ _ _ c.retain.ensures.filtered in
    let moved : IsPermutation (filter has_value parts) c.sort_unstable_by_key.new.self.items =
    subst (λ (v : List Piece). IsPermutation v c.sort_unstable_by_key.new.self.items) (kept
    ∙ ap (filter has_value) all) c.sort_unstable_by_key.ensures.permutation in
    tiles_listed tiles area c.requires.plane adds.ids adds.lists has_value c.sort_unstable_by_key.new.self.items passes pass moved
    (c.sort_unstable_by_key.ensures.sorted corner_key (answers_always _ _ _ (λ f a r g h. search rules)))
