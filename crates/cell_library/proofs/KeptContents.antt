-- Contents as they are kept, when they change.
use Rattle.cell_library.proofs.Common.{◌≡◌, ◌<◌, ℕ, List, [], ◌∷◌, ◌++◌, length, take, refl, sym, ap, subst, ◌∙◌, arith, Some, All, slice_get, Vec}
use Rattle.cell_library.proofs.Common.{values_of, Global, length-map, All-push, All-set, All-take, slice_get_within, set_value_at, Label, layout_of}
use Rattle.cell_library.proofs.Common.{IsSoundPaint, Content, held_of, held_in, no_held, IsSoundHeld, AreKept}
use Rattle.std.proofs.lemmas.List.{take_at}
use Rattle.cell_library.proofs.ContentLaws.{held_value, held_set, still_under_names, held_more, under_names_more, held_first, under_names_first}

-- the paint of one of them is sound
pub sound_at : (entries : List (Vec ℕ Global × Content)) (cell : ℕ) (content : Content) → slice_get (values_of entries) cell ≡ Some content
    → AreKept entries
    → IsSoundPaint content.paint.kinds (layout_of content.paint)
sound_at entries cell content is kept =
    let within = slice_get_within (values_of entries) cell content is in
    let long : length (held_in entries) ≡ length (values_of entries) = length-map (values_of entries) held_of in
    let below : cell < length (held_in entries) = omega arith in
    subst IsSoundHeld (held_value (values_of entries) cell content is) (kept.sound cell no_held below)

-- a content of the same name whose paint is sound in the place of another
pub still_kept : (entries : List (Vec ℕ Global × Content)) (cell : ℕ) (old new : Content) → slice_get (values_of entries) cell ≡ Some old
    → new.name ≡ old.name
    → IsSoundPaint new.paint.kinds (layout_of new.paint) → AreKept entries → AreKept (set_value_at entries cell new)
still_kept entries cell old new is same sound kept = record {
  names = still_under_names entries cell old new is same kept.names;
  sound = subst (All IsSoundHeld) (sym (held_set entries cell new)) (All-set IsSoundHeld (held_in entries) cell (held_of new) sound kept.sound);
}

-- a content with other labels
pub kept_relabelled : (entries : List (Vec ℕ Global × Content)) (cell : ℕ) (old : Content) (labels : Vec Label Global)
    → slice_get (values_of entries) cell ≡ Some old → AreKept entries → AreKept (set_value_at entries cell (record old { labels = labels }))
kept_relabelled entries cell old labels is kept =
    still_kept entries cell old (record old { labels = labels }) is refl (sound_at entries cell old is kept) kept

-- one more content whose paint is sound
pub kept_more : (entries : List (Vec ℕ Global × Content)) (key : Vec ℕ Global) (content : Content) → key.items ≡ content.name
    → IsSoundPaint content.paint.kinds (layout_of content.paint) → AreKept entries → AreKept (entries ++ (key, content) ∷ [])
kept_more entries key content same sound kept = record {
  names = under_names_more entries key content same kept.names;
  sound = subst (All IsSoundHeld) (sym (held_more entries key content)) (All-push IsSoundHeld (held_in entries) (held_of content) kept.sound sound);
}

-- the first ones
pub kept_first : (entries : List (Vec ℕ Global × Content)) (count : ℕ) → AreKept entries → AreKept (take count entries)
kept_first entries count kept = record {
  names = under_names_first entries count kept.names;
  sound = subst (All IsSoundHeld) (sym (held_first entries count)) (All-take IsSoundHeld count (held_in entries) kept.sound);
}

-- all but the last
pub kept_before : (all entries last : List (Vec ℕ Global × Content)) → all ≡ entries ++ last → AreKept all → AreKept entries
kept_before all entries last is kept =
    subst AreKept (ap (take (length entries)) is ∙ take_at entries last (length entries) refl) (kept_first all (length entries) kept)
